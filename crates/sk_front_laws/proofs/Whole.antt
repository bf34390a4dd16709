-- What a text means keeps the rules, and is well-formed.
use Rattle.sk_types_fit_laws.proofs.Whole.{well_formed}
use Rattle.sk_front_laws.specs.Meaning.{TextsKeepRules}
use Rattle.sk_front_laws.specs.WellFormed.{TextsAreWellFormed}
use Rattle.sk_front_laws.proofs.Stmts.{patterns_are_held}
use Rattle.sk_front_laws.proofs.Read.{tree_whole}
use Rattle.sk_front_laws.proofs.Named.{tree_named}

pub texts_keep : TextsKeepRules
texts_keep set text tree bounds prog typed =
    let r = (typed.reads).reads in
    record {
      tree = tree;
      placed = (r.reads).placed;
      types = typed.types;
      patterns = patterns_are_held tree bounds prog typed.types (tree_whole tree (typed.reads).tokens (r.reads).spelt r.few r.good);
    }

pub texts_fit : TextsAreWellFormed
texts_fit set text tree bounds prog typed =
    let r = (typed.reads).reads in
    well_formed bounds tree prog (tree_named text (typed.reads).tokens tree (typed.reads).lexed (r.reads).spelt) typed.types
