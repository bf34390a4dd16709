-- What calls ask of an expanded program and its sites: of each expansion of a program that keeps the rules it is true.
use Rattle.std.specs.Prelude.{ℕ, ◌≡◌, List, Bool, nat_lt}
use Rattle.std.specs.List.{list_all}
use Rattle.sk_base.specs.declared.bounds.Bounds.{Bounds}
use Rattle.sk_model.specs.declared.expanded.Site.{Site}
use Rattle.sk_model.specs.declared.expanded.Expanded.{Expanded}
use Rattle.sk_model.specs.Sites.{sites}

-- The sites are those of the program, for some bounds.
pub record HasItsSites (e : Expanded) : Type 0 where
  pub bounds : Bounds
  pub listed : e.sites ≡ sites bounds e.prog

-- a site has so few values that each is a number of a program
abbrev pub is_narrow : Site → Bool
is_narrow s = nat_lt s.size 4294967297

abbrev pub are_narrow : List Site → Bool
are_narrow ss = list_all is_narrow ss
