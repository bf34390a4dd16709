-- What a walk over patterns has met, wherever it stands.
use Rattle.sk_tree.specs.Spelt.{is_there}
use Rattle.sk_parser_laws.specs.Faults.{Tally}
use Rattle.sk_parser.specs.declared.walk.Faults.{Faults}

abbrev pub tally : Faults → Tally
tally faults = record { too_many = is_there faults.too_many; bad = is_there faults.bad }
