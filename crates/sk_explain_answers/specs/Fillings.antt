-- The filling of a program with zeros.
use Rattle.std.specs.Prelude.{ℕ, ◌≡◌, ◌≤◌, List, length, map, IsTrue}
use Rattle.sk_prog.specs.declared.prog.Prog.{Prog}
use Rattle.sk_model.specs.declared.expanded.Choice.{Choice}
use Rattle.sk_model.specs.declared.expanded.Expanded.{Expanded}
use Rattle.sk_model.specs.declared.expanded.Site.{Site}
use Rattle.sk_model.specs.Fill.{InRange, fill}
use Rattle.sk_opts.specs.declared.line.Set.{Set}
use Rattle.sk_front.specs.declared.expansion.Expansion.{Expansion}
use Rattle.sk_front.specs.Front.{Expands}
use Rattle.sk_expand_sites.specs.Needs.{HasItsSites, are_narrow}

-- what filling asks of an expanded program
pub record IsFillable (e : Expanded) : Type 0 where
  pub sites : HasItsSites e
  pub narrow : IsTrue (are_narrow e.sites)
  pub few : length e.sites ≤ 4294967296

-- a zero for each site
abbrev pub zeros : List Site → List ℕ
zeros sites = map (λ site. 0) sites

-- the program with 0 for each open part
pub record IsFilling (e : Expanded) (prog : Prog) : Type 0 where
  pub choice : Choice
  pub zero : choice.values ≡ zeros e.sites
  pub range : InRange e choice
  pub is : prog ≡ fill e choice

-- what a text expands to, with some options
pub record IsKnown (text : List ℕ) (x : Expansion) : Type 0 where
  pub set : Set
  pub expands : Expands set text x
