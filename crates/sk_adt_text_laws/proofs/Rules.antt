-- A program that plain tokens mean keeps the rules of types.
use Rattle.sk_front_laws.proofs.Read.{tree_whole}
use Rattle.sk_front_laws.proofs.Stmts.{patterns_are_held}
use Rattle.sk_adt_text_laws.specs.Lowered.{LoweredProgramsKeepRules}

pub rules : LoweredProgramsKeepRules
rules tokens form tree bounds prog h =
    let r = h.reads in
    record { tree = tree; placed = (r.reads).placed; types = h.types; patterns = patterns_are_held tree bounds prog h.types (tree_whole tree form.tokens (r.reads).spelt r.few r.good) }
