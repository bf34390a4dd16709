-- How many values a site has: few enough that each is a number of a program.
use Rattle.std.specs.Prelude.{List, ◌≤◌, ◌^◌, All}
use Rattle.sk_model.specs.declared.expanded.Site.{Site}

-- a site has at most 2^32 values
abbrev pub IsSmall : Site → Type 0
IsSmall s = s.size ≤ 4294967296

abbrev pub AreSmall : List Site → Type 0
AreSmall ss = All IsSmall ss
