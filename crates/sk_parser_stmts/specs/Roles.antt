-- The role of a statement in its place.
use Rattle.sk_tree.specs.Spelt.{Role, InBlock, AsBody, AsFirst, AsNext}
use Rattle.sk_parser_stmts.specs.declared.place.Place.{Place}
use Rattle.sk_parser_stmts.specs.declared.place.Place.TheVariants as place

abbrev pub role_of : Place → Role
role_of place.Block = InBlock
role_of place.Body = AsBody
role_of place.First = AsFirst
role_of place.Next = AsNext
