use Rattle.sk_app_texts.proofs.Computed.{of_text, of_type, of_size, of_exec, of_certificate}
use Rattle.sk_app_texts.proofs.examples.messages_of_refusals.Goals as goal

pub returns : goal.returns
returns c = record { text = of_text; types = of_type; size = of_size; exec = of_exec; certificate = of_certificate }
