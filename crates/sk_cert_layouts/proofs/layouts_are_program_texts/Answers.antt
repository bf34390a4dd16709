use Rattle.sk_cert_layouts.proofs.Programs.{layouts_are_program_texts}
use Rattle.sk_cert_layouts.proofs.layouts_are_program_texts.Goals as goal

pub returns : goal.returns
returns c = layouts_are_program_texts
