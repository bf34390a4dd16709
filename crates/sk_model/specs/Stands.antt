-- What stands under a choice. A statement stands where every copy of a repeat round it is kept and its
-- function stands. An ordinary function always stands, and a copy of a generator where the statement
-- that holds its one call does. A string of a pattern stands where it is the chosen one and the
-- statement round it stands. A site inside a string stands where that string does, and any other where
-- its statement does. (No string holds a call.)
--
-- It is said of a part as if the part stands; of a part that does not, nothing stands.
use Rattle.std.specs.Prelude.{ℕ, zero, suc, ◌+◌, ◌-◌, ◌==◌, List, [], ◌∷◌, ◌++◌, map, length, replicate, slice_index_or, Bool, true, false, ◌||◌, nat_lt, IsTrue, ◌≡◌, Option, Some, None, if◌then◌else◌}
use Rattle.std.specs.List.{list_any}
use Rattle.sk_base.specs.declared.span.Span.{Span}
use Rattle.sk_prog.specs.declared.ty.Ty.{Ty}
use Rattle.sk_prog.specs.declared.ty.Ty.TheVariants as ty
use Rattle.sk_prog.specs.declared.ty.Elem.TheVariants as elem
use Rattle.sk_prog.specs.declared.expr.PExpr.{PExpr}
use Rattle.sk_prog.specs.declared.expr.PEForm.TheOpen as P
use Rattle.sk_prog.specs.declared.expr.PEForm.TheFolds.{fold-PExpr}
use Rattle.sk_prog.specs.declared.stmt.PStmt.{PStmt}
use Rattle.sk_prog.specs.declared.stmt.PForm.TheOpen as S
use Rattle.sk_prog.specs.declared.stmt.PForm.TheFolds.{fold-PStmt}
use Rattle.sk_prog.specs.declared.prog.Fun.{Fun}
use Rattle.sk_model.specs.declared.expanded.Expanded.{Expanded}
use Rattle.sk_model.specs.Parts.{Part, counts, value, joined}
use Rattle.sk_model.specs.Sites.{is_hole}

-- what a minrepeat with this span pays, its value
pub record Payment : Type 0 where
  pub span : Span
  pub amount : ℕ

-- For each site of a part whether it stands, the functions that what stands in the part calls, and
-- what the minrepeats that stand in it pay, in order.
pub record Standing : Type 0 where
  pub marks : List Bool
  pub called : List ℕ
  pub paid : List Payment

abbrev pub nothing : Standing
nothing = record { marks = []; called = []; paid = [] }

abbrev pub together : Standing → Standing → Standing
together s t = record { marks = s.marks ++ t.marks; called = s.called ++ t.called; paid = s.paid ++ t.paid }

-- so many sites that stand, and nothing else
abbrev pub own : ℕ → Part Standing
own n = record { count = n; at = λ i. record { marks = replicate n true; called = []; paid = [] } }

-- a part that does not stand
abbrev pub absent : Part Standing → Part Standing
absent p = record { count = p.count; at = λ i. record { marks = replicate p.count false; called = []; paid = [] } }

abbrev pub beside : Part Standing → Part Standing → Part Standing
beside p q = record { count = p.count + q.count; at = λ i. together (p.at i) (q.at (i + p.count)) }

abbrev pub in_row : List (Part Standing) → Part Standing
in_row [] = own 0
in_row (p ∷ ps) = beside p (in_row ps)

abbrev pub if_there : Option (Part Standing) → Part Standing
if_there None = own 0
if_there (Some p) = p

-- the first v of these parts stand
abbrev pub first_of : ℕ → List (Part Standing) → List (Part Standing)
first_of v [] = []
first_of zero (p ∷ ps) = absent p ∷ first_of zero ps
first_of (suc v) (p ∷ ps) = p ∷ first_of v ps

-- the one with number v of these parts stands
abbrev pub only : ℕ → List (Part Standing) → List (Part Standing)
only v [] = []
only zero (p ∷ ps) = p ∷ first_of zero ps
only (suc v) (p ∷ ps) = absent p ∷ only v ps

-- how many sites a hole of this type has
abbrev pub hole_count : Option Ty → ℕ
hole_count (Some (ty.Array elem.Bit n)) = n
hole_count _ = 1

module _ (values : List ℕ) where
  -- one site, whose value says what stands of the parts after it
  abbrev pub by_value : (ℕ → List (Part Standing) → List (Part Standing)) → List (Part Standing) → Part Standing
  by_value some ps = record { count = suc (counts ps); at = λ i. together ((own 1).at i) ((in_row (some (value values i) ps)).at (i + 1)) }

  abbrev pub with_calls : ℕ → Part Standing → Part Standing
  with_calls f p = record { count = p.count; at = λ i. together (record nothing { called = f ∷ [] }) (p.at i) }

  abbrev pub eform_standing : P.PEForm-F (Option Ty → Part Standing) (Part Standing) (Part Standing) → Option Ty → Part Standing
  eform_standing (P.Hole width) t = own (hole_count t)
  eform_standing (P.Pattern strings) t = by_value only strings
  eform_standing (P.Call f args) t = with_calls f.index (in_row args)
  eform_standing (P.Number n) t = own 0
  eform_standing P.True t = own 0
  eform_standing P.False t = own 0
  eform_standing P.Null t = own 0
  eform_standing (P.Var slot name) t = own 0
  eform_standing (P.Const c) t = own 0
  eform_standing (P.Paren e) t = e
  eform_standing (P.New s fields) t = in_row fields
  eform_standing (P.Braces es) t = in_row es
  eform_standing (P.Member e s field) t = e
  eform_standing (P.Index e i) t = beside e i
  eform_standing (P.Slice e i n) t = beside e i
  eform_standing (P.Unary op e) t = e
  eform_standing (P.Binary op a b) t = beside a b
  eform_standing (P.Cond c a b) t = beside c (beside a b)
  eform_standing (P.ToInt e) t = e
  eform_standing (P.Pad e) t = e

  abbrev pub expr_standing : PExpr → Part Standing
  expr_standing = fold-PExpr (Option Ty → Part Standing) (Part Standing) (Part Standing) eform_standing (λ e. e.form e.ty) (λ x. x.value)

  abbrev pub value_standing : Option PExpr → Part Standing
  value_standing None = own 0
  value_standing (Some e) = expr_standing e

  -- a minrepeat pays its value
  abbrev pub with_paid : Span → Part Standing → Part Standing
  with_paid span p = record { count = p.count; at = λ i. together (record nothing { paid = record { span = span; amount = value values i } ∷ [] }) (p.at i) }

  -- all copies of a repeat by a constant stand, and of a repeat by a hole as many as its value says
  abbrev pub repeat_standing : PExpr → List (Part Standing) → Part Standing
  repeat_standing count copies = if is_hole count.form then by_value first_of copies else in_row copies

  abbrev pub form_standing : S.PForm-F (Span → Part Standing) (Part Standing) → Span → Part Standing
  form_standing (S.Repeat count copies) span = repeat_standing count copies
  form_standing (S.MinRepeat copies) span = with_paid span (by_value first_of copies)
  form_standing (S.Reorder ss) span = beside (own (length ss - 1)) (in_row ss)
  form_standing (S.Block ss) span = in_row ss
  form_standing (S.Declare slot name t value) span = value_standing value
  form_standing (S.Assign target value) span = beside (expr_standing target) (expr_standing value)
  form_standing (S.Call e) span = expr_standing e
  form_standing (S.If c a b) span = beside (expr_standing c) (beside a (if_there b))
  form_standing (S.While c a) span = beside (expr_standing c) a
  form_standing (S.Return value) span = value_standing value
  form_standing (S.Assert e) span = expr_standing e
  form_standing (S.Assume e) span = expr_standing e
  form_standing (S.Minimize e) span = expr_standing e

  abbrev pub stmt_standing : PStmt → Part Standing
  stmt_standing = fold-PStmt (Span → Part Standing) (Part Standing) form_standing (λ s. s.form s.span)

  abbrev pub body_standing : List PStmt → Part Standing
  body_standing ss = in_row (map stmt_standing ss)

-- whether a function stands, and what stands in it
pub record FunStanding : Type 0 where
  pub stands : Bool
  pub within : Standing

abbrev pub is_called : List ℕ → ℕ → Bool
is_called called n = list_any (λ f. f == n) called

abbrev pub part_if : Bool → Part Standing → Part Standing
part_if b p = if b then p else absent p

module _ (values : List ℕ) (ordinary : ℕ) where
  abbrev pub fun_standing : Bool → ℕ → Fun → FunStanding
  fun_standing stands i f = record { stands = stands; within = (part_if stands (body_standing values f.body)).at i }

  -- Of functions of which the first has number n, and its first site place i, where what stands before
  -- them calls these. The one call of a copy stands in a function before it.
  abbrev pub standing_from : List ℕ → ℕ → ℕ → List Fun → List FunStanding
  standing_from called n i [] = []
  standing_from called n i (f ∷ fs) =
      let s = fun_standing (nat_lt n ordinary || is_called called n) i f in
      s ∷ standing_from (called ++ s.within.called) (n + 1) (i + (body_standing values f.body).count) fs

-- for each function whether it stands, and what stands in it
abbrev pub standing : Expanded → List ℕ → List FunStanding
standing e values = standing_from values e.ordinary [] 0 0 e.prog.funs

abbrev pub funs_stand : List FunStanding → List Bool
funs_stand ss = map (λ s. s.stands) ss

-- for each site whether it stands
abbrev pub sites_stand : List FunStanding → List Bool
sites_stand ss = joined (map (λ s. s.within.marks) ss)

-- what all minrepeats that stand pay, in order of their sites
abbrev pub all_paid : List FunStanding → List Payment
all_paid ss = joined (map (λ s. s.within.paid) ss)

-- The site with this place stands under a choice.
pub record SiteStands (e : Expanded) (values : List ℕ) (i : ℕ) : Type 0 where
  pub stands : IsTrue (slice_index_or (sites_stand (standing e values)) i false)

-- The function with this number stands under a choice.
pub record FunStands (e : Expanded) (values : List ℕ) (n : ℕ) : Type 0 where
  pub stands : IsTrue (slice_index_or (funs_stand (standing e values)) n false)

-- Two choices have the same value for each site that stands under the first.
pub record AgreeWhereStands (e : Expanded) (a b : List ℕ) : Type 0 where
  pub agree : (i : ℕ) → SiteStands e a i → value a i ≡ value b i
