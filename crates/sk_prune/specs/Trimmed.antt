-- Statements without what no run of them can reach.
--   an `if` whose condition is constant is the branch that is taken; a `while` whose condition is constantly false is nothing
--   behind a statement that never goes on, a `return` or what ends in one on each way, no statement of its block stays
--   a block in which nothing is declared is its statements, unless it is a body; an `else` in which nothing stays is none
--   a repeat by a constant is the block of its copies, and a reorder of one statement at most that of its statement
-- What is made has the span of what it replaces, and bodies are blocks as before.
use Rattle.std.specs.Prelude.{ℕ, Bool, true, false, ◌&&◌, List, [], ◌∷◌, ◌++◌, map, length, nat_le, Option, Some, None, if◌then◌else◌}
use Rattle.std.specs.List.{list_any}
use Rattle.sk_base.specs.declared.span.Span.{Span}
use Rattle.sk_prog.specs.declared.expr.PExpr.{PExpr}
use Rattle.sk_prog.specs.declared.stmt.PStmt.{PStmt}
use Rattle.sk_prog.specs.declared.stmt.PForm.{PForm}
use Rattle.sk_prog.specs.declared.stmt.PForm.TheVariants as form
use Rattle.sk_prog.specs.declared.stmt.PForm.TheOpen as S
use Rattle.sk_prog.specs.declared.stmt.PForm.TheFolds.{fold-PStmt}
use Rattle.sk_prog.specs.declared.prog.ConstDef.{ConstDef}
use Rattle.sk_model.specs.Sites.{is_hole}
use Rattle.sk_prune.specs.declared.constant.Constant.{Constant}
use Rattle.sk_prune.specs.declared.constant.Constant.TheVariants.{Bit, Number}
use Rattle.sk_prune.specs.Constants.{constant}

-- What a statement becomes: as a body, and among the statements of a block; and whether it never goes on to the next one.
pub record Trimmed : Type 0 where
  pub inside : List PStmt
  pub among : List PStmt
  pub ends : Bool

abbrev pub nothing : Trimmed
nothing = record { inside = []; among = []; ends = false }

-- one statement that takes the place of another
abbrev pub one : Span → PForm → Bool → Trimmed
one span form ends = let s : PStmt = record { span = span; form = form } in record { inside = s ∷ []; among = s ∷ []; ends = ends }

-- Blocks

abbrev pub form_declares : {X Y : Type 0} → S.PForm-F X Y → Bool
form_declares (S.Declare slot x t e) = true
form_declares (S.Block ss) = false
form_declares (S.Assign target e) = false
form_declares (S.Call e) = false
form_declares (S.If c a b) = false
form_declares (S.While c a) = false
form_declares (S.Return e) = false
form_declares (S.Assert e) = false
form_declares (S.Assume e) = false
form_declares (S.Minimize e) = false
form_declares (S.Repeat count copies) = false
form_declares (S.MinRepeat copies) = false
form_declares (S.Reorder ss) = false

-- whether a statement is a declaration
abbrev pub declares : PStmt → Bool
declares = fold-PStmt Bool Bool form_declares (λ s. s.form)

abbrev pub block : Span → List PStmt → PStmt
block span ss = record { span = span; form = form.Block ss }

-- a block among other statements
abbrev pub opened : Span → List PStmt → List PStmt
opened span ss = if list_any declares ss then block span ss ∷ [] else ss

-- statements one after another, up to the first that never goes on
abbrev pub up_to_end : List Trimmed → List PStmt
up_to_end [] = []
up_to_end (s ∷ ss) = if s.ends then s.among else s.among ++ up_to_end ss

abbrev pub any_ends : List Trimmed → Bool
any_ends ss = list_any (λ s. s.ends) ss

abbrev pub trimmed_block : Span → List Trimmed → Trimmed
trimmed_block span ss = record { inside = up_to_end ss; among = opened span (up_to_end ss); ends = any_ends ss }

-- Branches and loops

abbrev pub if_there : Option Trimmed → Trimmed
if_there None = nothing
if_there (Some s) = s

abbrev pub else_body : Span → List PStmt → Option PStmt
else_body span [] = None
else_body span (s ∷ ss) = Some (block span (s ∷ ss))

abbrev pub kept_if : Span → PExpr → Trimmed → Trimmed → Trimmed
kept_if span c a b = one span (form.If c (block span a.inside) (else_body span b.inside)) (a.ends && b.ends)

abbrev pub branch : Span → PExpr → Trimmed → Trimmed → Option Constant → Trimmed
branch span c a b (Some (Bit true)) = a
branch span c a b (Some (Bit false)) = b
branch span c a b (Some (Number n)) = kept_if span c a b
branch span c a b None = kept_if span c a b

abbrev pub loop : Span → PExpr → Trimmed → Option Constant → Trimmed
loop span c a (Some (Bit false)) = nothing
loop span c a (Some (Bit true)) = one span (form.While c (block span a.inside)) false
loop span c a (Some (Number n)) = one span (form.While c (block span a.inside)) false
loop span c a None = one span (form.While c (block span a.inside)) false

abbrev pub bodies : Span → List Trimmed → List PStmt
bodies span ss = map (λ s. block span s.inside) ss

module _ (consts : List ConstDef) (width : ℕ) where
  abbrev pub trim_form : S.PForm-F (Span → Trimmed) Trimmed → Span → Trimmed
  trim_form (S.Block ss) span = trimmed_block span ss
  trim_form (S.If c a b) span = branch span c a (if_there b) (constant consts width c)
  trim_form (S.While c a) span = loop span c a (constant consts width c)
  trim_form (S.Return e) span = one span (form.Return e) true
  trim_form (S.Declare slot x t e) span = one span (form.Declare slot x t e) false
  trim_form (S.Assign target e) span = one span (form.Assign target e) false
  trim_form (S.Call e) span = one span (form.Call e) false
  trim_form (S.Assert e) span = one span (form.Assert e) false
  trim_form (S.Assume e) span = one span (form.Assume e) false
  trim_form (S.Minimize e) span = one span (form.Minimize e) false
  trim_form (S.Repeat count copies) span = if is_hole count.form then one span (form.Repeat count (bodies span copies)) false else trimmed_block span copies
  trim_form (S.MinRepeat copies) span = one span (form.MinRepeat (bodies span copies)) false
  trim_form (S.Reorder ss) span = if nat_le (length ss) 1 then trimmed_block span ss else one span (form.Reorder (bodies span ss)) false

  abbrev pub trim : PStmt → Trimmed
  trim = fold-PStmt (Span → Trimmed) Trimmed trim_form (λ s. s.form s.span)

  -- the statements of a function's body
  abbrev pub trimmed : List PStmt → List PStmt
  trimmed ss = up_to_end (map trim ss)
