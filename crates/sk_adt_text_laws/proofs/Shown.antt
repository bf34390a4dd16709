-- A program that the plain tokens of a text mean is well-formed, and its layout shows it.
use Rattle.sk_types_fit_laws.proofs.Whole.{well_formed}
use Rattle.sk_print_laws.proofs.ProgramShown.{programs_shown}
use Rattle.sk_front_laws.proofs.Named.{spelt_named}
use Rattle.sk_adt_text_laws.specs.Shown.{LoweredProgramsFit, LoweredProgramsAreShown}
use Rattle.sk_adt_text_laws.proofs.Rules.{rules}
use Rattle.sk_adt_text_laws.proofs.Words.{plain_named}

pub fits : LoweredProgramsFit
fits text tokens form tree bounds prog lexed h =
    let r = h.reads in
    well_formed bounds tree prog (spelt_named form.tokens tree (r.reads).spelt (plain_named text tokens form lexed h.lowered_is)) h.types

pub shown : LoweredProgramsAreShown
shown text tokens form tree bounds prog bits lexed h = programs_shown bounds prog bits (rules tokens form tree bounds prog h) (fits text tokens form tree bounds prog lexed h)
