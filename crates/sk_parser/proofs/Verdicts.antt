-- What is answered for a tree that was read is answered for its tokens.
use Rattle.std.proofs.Common.{◌≡◌, List, Some, Result, Ok, Err, ap, ◌∙◌, sym}
use Rattle.sk_tree.specs.declared.token.Token.{Token}
use Rattle.sk_tree.specs.declared.item.Tree.{Tree}
use Rattle.sk_parser.specs.declared.fault.ParseFault.{ParseFault}
use Rattle.sk_parser.specs.declared.fault.ParseFault.TheVariants as fault
use Rattle.sk_parser_laws.specs.Faults.{tally_of}
use Rattle.sk_parser_laws.specs.ItemReader.{tree_at}
use Rattle.sk_parser.specs.Parses.{Checks, Answers}

pub answers_of : (ts : List Token) (tree : Tree) (r : Result Tree ParseFault) → tree_at ts ≡ Some tree → Checks tree r → Answers ts r
answers_of ts tree (Ok answer) e (same, none) = (e ∙ ap Some (sym same), ap tally_of same ∙ none)
answers_of ts tree (Err (fault.NoReading at)) e h = absurd h
answers_of ts tree (Err (fault.TooManyStrings at)) e many = (tree, e, many)
answers_of ts tree (Err (fault.BadAlternative at)) e h = (tree, e, h.0, h.1)
answers_of ts tree (Err fault.Memory) e h = tt
