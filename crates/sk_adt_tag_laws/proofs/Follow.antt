-- A part follows another where it may do no more than the other, says what the other says, and breaks no rule where the other breaks none, also in the
-- first branches of more tests.
use Rattle.std.proofs.Common.{◌≡◌, ℕ, Bool, true, false, List, [], ◌∷◌, ◌++◌, map, Option, Some, None, refl, sym, subst, ◌∙◌}
use Rattle.std.specs.Prelude.{◌&&◌, ◌||◌, ◌==◌, if◌then◌else◌}
use Rattle.std.specs.List.{list_all, list_any}
use Rattle.sk_base.specs.declared.span.Span.{Span}
use Rattle.sk_prog.specs.declared.expr.BinOp.{BinOp}
use Rattle.sk_prog.specs.declared.expr.BinOp.TheVariants as op
use Rattle.sk_prog.specs.declared.prog.ParamDef.{ParamDef}
use Rattle.sk_adt.specs.declared.algebraic.Algebraic.{Algebraic}
use Rattle.sk_adt_tags.specs.declared.role.Role.{Role}
use Rattle.sk_adt_tags.specs.declared.role.Role.TheVariants as role
use Rattle.sk_adt_tags.specs.declared.role.Test.{Test}
use Rattle.sk_adt.specs.Words.{each}
use Rattle.sk_adt_tags.specs.Tags.{Part, of_none, of_one, of_two, of_parts, pattern_part, test_for, test_of, unless, is_tested, member_part, passes_to, role_in, variant_numbered, made_variant, is_of, sets_only, new_fits, Work, of_expr, both, all_of, idle, touching, condition_breaks, condition, tests_within, first_branch, tested}

-- Truth values and spans

pub either : (a b c : Bool) → (a ≡ true → c ≡ true) → (b ≡ true → c ≡ true) → (a || b) ≡ true → c ≡ true
either true b c f g h = f refl
either false b c f g h = g h

pub left : (a b : Bool) → a ≡ true → (a || b) ≡ true
left true b h = refl
left false b h = cc

pub right : (a b : Bool) → b ≡ true → (a || b) ≡ true
right true b h = refl
right false b h = h

both_yes : (c d e : Bool) → (d ≡ true → e ≡ true) → (c && d) ≡ true → (c && e) ≡ true
both_yes true d e f h = f h
both_yes false d e f h = cc

pub none_first : (xs ys : List Span) → xs ++ ys ≡ [] → xs ≡ []
none_first [] ys h = refl
none_first (x ∷ xs) ys h = cc

pub none_second : (xs ys : List Span) → xs ++ ys ≡ [] → ys ≡ []
none_second [] ys h = h
none_second (x ∷ xs) ys h = cc

pub none_both : (xs ys : List Span) → xs ≡ [] → ys ≡ [] → xs ++ ys ≡ []
none_both [] ys e h = h
none_both (x ∷ xs) ys e h = cc

-- Tests

-- What these tests test, the others test too.
abbrev pub Within : List Test → List Test → Type 0
Within ts us = (x i : ℕ) → is_tested (Some x) i ts ≡ true → is_tested (Some x) i us ≡ true

-- Where the one names a number, the other names it too.
abbrev pub Says : Option ℕ → Option ℕ → Type 0
Says a b = (n : ℕ) → a ≡ Some n → b ≡ Some n

tested_says : (a b : Option ℕ) → Says a b → (i : ℕ) (ts us : List Test) → Within ts us → is_tested a i ts ≡ true → is_tested b i us ≡ true
tested_says None b h i ts us w k = cc
tested_says (Some x) b h i ts us w k = subst (λ o. is_tested o i us ≡ true) (sym (h x refl)) (w x i k)

-- Expressions

-- b follows a
pub record Follows (a b : Part) : Type 0 where
  pub slot : Says a.slot b.slot
  pub number : Says a.number b.number
  pub tag : Says a.tag b.tag
  pub test : (t : Test) → a.test ≡ Some t → b.test ≡ Some t
  pub may_be : (x : ℕ) → b.may_be x ≡ true → a.may_be x ≡ true
  pub passes : (x : ℕ) → b.passes x ≡ true → a.passes x ≡ true
  pub breaks : (ts us : List Test) → Within ts us → a.breaks ts ≡ [] → b.breaks us ≡ []

-- parts one beside another
abbrev pub AllFollow : List Part → List Part → Type 0
AllFollow [] [] = Unit {0}
AllFollow (a ∷ olds) (b ∷ news) = Follows a b × AllFollow olds news
AllFollow [] (b ∷ news) = ⊥
AllFollow (a ∷ olds) [] = ⊥

-- fields that `new` sets, of the same number
abbrev pub SetFollows : ℕ × Part → ℕ × Part → Type 0
SetFollows f g = (f.0 ≡ g.0) × Follows f.1 g.1

abbrev pub AllSetFollow : List (ℕ × Part) → List (ℕ × Part) → Type 0
AllSetFollow [] [] = Unit {0}
AllSetFollow (f ∷ fs) (g ∷ gs) = SetFollows f g × AllSetFollow fs gs
AllSetFollow [] (g ∷ gs) = ⊥
AllSetFollow (f ∷ fs) [] = ⊥

-- a part that holds nothing, whatever stands there
pub quiet_follows : (n : Option ℕ) → Follows of_none (record of_none { number = n })
quiet_follows n = record { slot = λ x k. cc; number = λ x k. cc; tag = λ x k. cc; test = λ x k. cc; may_be = λ x k. k; passes = λ x k. k; breaks = λ ts us w k. refl }

pub none_follows : Follows of_none of_none
none_follows = record { slot = λ x k. cc; number = λ x k. cc; tag = λ x k. cc; test = λ x k. cc; may_be = λ x k. k; passes = λ x k. k; breaks = λ ts us w k. refl }

pub number_follows : (n : ℕ) → Follows (record of_none { number = Some n }) (record of_none { number = Some n })
number_follows n = record { slot = λ x k. cc; number = λ x k. k; tag = λ x k. cc; test = λ x k. cc; may_be = λ x k. k; passes = λ x k. k; breaks = λ ts us w k. refl }

pub variable_follows : (n : ℕ) → Follows (record of_none { slot = Some n; may_be = λ x. x == n }) (record of_none { slot = Some n; may_be = λ x. x == n })
variable_follows n = record { slot = λ x k. k; number = λ x k. cc; tag = λ x k. cc; test = λ x k. cc; may_be = λ x k. k; passes = λ x k. k; breaks = λ ts us w k. refl }

pub one_follows : {a b : Part} → Follows a b → Follows (of_one a) (of_one b)
one_follows h = record { slot = λ x k. cc; number = λ x k. cc; tag = λ x k. cc; test = λ x k. cc; may_be = λ x k. k; passes = h.passes; breaks = h.breaks }

two_passes : {a b c d : Part} → Follows a c → Follows b d → (x : ℕ) → (c.passes x || d.passes x) ≡ true → (a.passes x || b.passes x) ≡ true
two_passes {a} {b} {c} {d} h k x = either (c.passes x) (d.passes x) (a.passes x || b.passes x) (λ e. left (a.passes x) (b.passes x) (h.passes x e)) (λ e. right (a.passes x) (b.passes x) (k.passes x e))

two_breaks : {a b c d : Part} → Follows a c → Follows b d → (ts us : List Test) → Within ts us → a.breaks ts ++ b.breaks ts ≡ [] → c.breaks us ++ d.breaks us ≡ []
two_breaks {a} {b} {c} {d} h k ts us w e = none_both (c.breaks us) (d.breaks us) (h.breaks ts us w (none_first (a.breaks ts) (b.breaks ts) e)) (k.breaks ts us w (none_second (a.breaks ts) (b.breaks ts) e))

pub two_follow : {a b c d : Part} → Follows a c → Follows b d → Follows (of_two a b) (of_two c d)
two_follow h k = record { slot = λ x e. cc; number = λ x e. cc; tag = λ x e. cc; test = λ x e. cc; may_be = λ x e. e; passes = two_passes h k; breaks = two_breaks h k }

for_says : (m n m' n' : Option ℕ) → Says m m' → Says n n' → (t : Test) → test_for m n ≡ Some t → test_for m' n' ≡ Some t
for_says None n m' n' h k t e = cc
for_says (Some x) None m' n' h k t e = cc
for_says (Some x) (Some i) m' n' h k t e = subst (λ o. test_for o n' ≡ Some t) (sym (h x refl)) (subst (λ o. test_for (Some x) o ≡ Some t) (sym (k i refl)) e)

test_says : (o : BinOp) {a b c d : Part} → Follows a c → Follows b d → (t : Test) → test_of o a b ≡ Some t → test_of o c d ≡ Some t
test_says op.Eq {a} {b} {c} {d} h k t e = for_says a.tag b.number c.tag d.number h.tag k.number t e
test_says op.Mul h k t e = cc
test_says op.Div h k t e = cc
test_says op.Rem h k t e = cc
test_says op.Add h k t e = cc
test_says op.Sub h k t e = cc
test_says op.Shl h k t e = cc
test_says op.Shr h k t e = cc
test_says op.Lt h k t e = cc
test_says op.Le h k t e = cc
test_says op.Gt h k t e = cc
test_says op.Ge h k t e = cc
test_says op.Ne h k t e = cc
test_says op.And h k t e = cc
test_says op.Xor h k t e = cc
test_says op.Or h k t e = cc
test_says op.AndThen h k t e = cc
test_says op.OrElse h k t e = cc

pub binary_follows : (o : BinOp) {a b c d : Part} → Follows a c → Follows b d → Follows (record (of_two a b) { test = test_of o a b }) (record (of_two c d) { test = test_of o c d })
binary_follows o h k = record { slot = λ x e. cc; number = λ x e. cc; tag = λ x e. cc; test = test_says o h k; may_be = λ x e. e; passes = two_passes h k; breaks = two_breaks h k }

-- Rows of parts

any_passes : (olds news : List Part) → AllFollow olds news → (x : ℕ) → list_any (λ p. p.passes x) news ≡ true → list_any (λ p. p.passes x) olds ≡ true
any_passes [] [] h x k = k
any_passes [] (b ∷ news) h x k = absurd h
any_passes (a ∷ olds) [] h x k = absurd h
any_passes (a ∷ olds) (b ∷ news) h x k =
    let rest = any_passes olds news h.1 x in
    either (b.passes x) (list_any (λ p. p.passes x) news) (a.passes x || list_any (λ p. p.passes x) olds) (λ e. left (a.passes x) (list_any (λ p. p.passes x) olds) (h.0.passes x e)) (λ e. right (a.passes x) (list_any (λ p. p.passes x) olds) (rest e)) k

none_breaks : (olds news : List Part) → AllFollow olds news → (ts us : List Test) → Within ts us → each (map (λ p. p.breaks ts) olds) ≡ [] → each (map (λ p. p.breaks us) news) ≡ []
none_breaks [] [] h ts us w k = refl
none_breaks [] (b ∷ news) h ts us w k = absurd h
none_breaks (a ∷ olds) [] h ts us w k = absurd h
none_breaks (a ∷ olds) (b ∷ news) h ts us w k =
    none_both (b.breaks us) (each (map (λ p. p.breaks us) news)) (h.0.breaks ts us w (none_first (a.breaks ts) (each (map (λ p. p.breaks ts) olds)) k)) (none_breaks olds news h.1 ts us w (none_second (a.breaks ts) (each (map (λ p. p.breaks ts) olds)) k))

pub parts_follow : (olds news : List Part) → AllFollow olds news → Follows (of_parts olds) (of_parts news)
parts_follow olds news h = record { slot = λ x e. cc; number = λ x e. cc; tag = λ x e. cc; test = λ x e. cc; may_be = λ x e. e; passes = any_passes olds news h; breaks = none_breaks olds news h }

-- parts that hold nothing
abbrev pub AllQuiet : List Part → Type 0
AllQuiet [] = Unit {0}
AllQuiet (b ∷ news) = Follows of_none b × AllQuiet news

pub quiet_parts : (news : List Part) → AllQuiet news → Follows of_none (of_parts news)
quiet_parts [] h = none_follows
quiet_parts (b ∷ news) h =
    let rest = quiet_parts news h.1 in
    record {
      slot = λ x e. cc;
      number = λ x e. cc;
      tag = λ x e. cc;
      test = λ x e. cc;
      may_be = λ x e. e;
      passes = λ x. either (b.passes x) (list_any (λ p. p.passes x) news) false (h.0.passes x) (rest.passes x);
      breaks = λ ts us w e. none_both (b.breaks us) (each (map (λ p. p.breaks us) news)) (h.0.breaks ts us w refl) (rest.breaks ts us w refl);
    }

-- Calls

passes_back : (ps : List ParamDef) (olds news : List Part) → AllFollow olds news → (x : ℕ) → passes_to ps news x ≡ true → passes_to ps olds x ≡ true
passes_back [] olds news h x k = cc
passes_back (p ∷ ps) [] [] h x k = cc
passes_back (p ∷ ps) [] (b ∷ news) h x k = absurd h
passes_back (p ∷ ps) (a ∷ olds) [] h x k = absurd h
passes_back (p ∷ ps) (a ∷ olds) (b ∷ news) h x k =
    let rest = passes_back ps olds news h.1 x in
    either (p.by_ref && b.may_be x) (passes_to ps news x) ((p.by_ref && a.may_be x) || passes_to ps olds x) (λ e. left (p.by_ref && a.may_be x) (passes_to ps olds x) (both_yes p.by_ref (b.may_be x) (a.may_be x) (h.0.may_be x) e)) (λ e. right (p.by_ref && a.may_be x) (passes_to ps olds x) (rest e)) k

-- a call of what has these parameters
abbrev pub called : List ParamDef → List Part → Part
called ps args = record (of_parts args) { passes = λ x. passes_to ps args x || list_any (λ p. p.passes x) args }

same_called : (ps : List ParamDef) (olds news : List Part) → AllFollow olds news → Follows (called ps olds) (called ps news)
same_called ps olds news h = record {
  slot = λ x e. cc;
  number = λ x e. cc;
  tag = λ x e. cc;
  test = λ x e. cc;
  may_be = λ x e. e;
  passes = λ x. either (passes_to ps news x) (list_any (λ p. p.passes x) news) (passes_to ps olds x || list_any (λ p. p.passes x) olds) (λ e. left (passes_to ps olds x) (list_any (λ p. p.passes x) olds) (passes_back ps olds news h x e)) (λ e. right (passes_to ps olds x) (list_any (λ p. p.passes x) olds) (any_passes olds news h x e));
  breaks = none_breaks olds news h;
}

pub call_follows : (ps qs : List ParamDef) → ps ≡ qs → (olds news : List Part) → AllFollow olds news → Follows (called ps olds) (called qs news)
call_follows ps qs e olds news h = subst (λ qs. Follows (called ps olds) (called qs news)) e (same_called ps olds news h)

-- Members

unless_none : (keeps : Bool) (s : Span) (spans : List Span) → unless keeps s spans ≡ [] → (keeps ≡ true) × (spans ≡ [])
unless_none true s spans h = (refl, h)
unless_none false s spans h = cc

none_unless : (keeps : Bool) (s : Span) (spans : List Span) → keeps ≡ true → spans ≡ [] → unless keeps s spans ≡ []
none_unless true s spans e h = h
none_unless false s spans e h = cc

pub member_follows : (r : Role) (s s' : Span) {a b : Part} → Follows a b → Follows (member_part r s a) (member_part r s' b)
member_follows role.Free s s' h = one_follows h
member_follows role.Tag s s' h = record { slot = λ x k. cc; number = λ x k. cc; tag = h.slot; test = λ x k. cc; may_be = λ x k. k; passes = h.passes; breaks = λ ts us w k. cc }
member_follows (role.Of i) s s' {a} {b} h = record {
  slot = λ x k. cc;
  number = λ x k. cc;
  tag = λ x k. cc;
  test = λ x k. cc;
  may_be = λ x k. k;
  passes = h.passes;
  breaks = λ ts us w k.
      let c = unless_none (is_tested a.slot i ts) s (a.breaks ts) k in
      none_unless (is_tested b.slot i us) s' (b.breaks us) (tested_says a.slot b.slot h.slot i ts us w c.0) (h.breaks ts us w c.1);
}

-- `new`

numbered_says : (a : Algebraic) (m n : Option ℕ) → Says m n → Says (variant_numbered a m) (variant_numbered a n)
numbered_says a None n h i k = cc
numbered_says a (Some x) n h i k = subst (λ o. variant_numbered a o ≡ Some i) (sym (h x refl)) k

made_says : (a : Algebraic) (f g : ℕ × Part) → SetFollows f g → Says (made_variant a f) (made_variant a g)
made_says a f g h i k = subst (λ n. (if n == 0 then variant_numbered a g.1.number else None) ≡ Some i) h.0 (go (f.0 == 0) k)
  where
    go : (b : Bool) → (if b then variant_numbered a f.1.number else None) ≡ Some i → (if b then variant_numbered a g.1.number else None) ≡ Some i
    go true e = numbered_says a f.1.number g.1.number h.1.number i e
    go false e = e

names_same : (a : Algebraic) (i : ℕ) (fs gs : List (ℕ × Part)) → AllSetFollow fs gs → list_all (λ f. is_of i (role_in (Some a) f.0)) fs ≡ list_all (λ f. is_of i (role_in (Some a) f.0)) gs
names_same a i [] [] h = refl
names_same a i [] (g ∷ gs) h = absurd h
names_same a i (f ∷ fs) [] h = absurd h
names_same a i (f ∷ fs) (g ∷ gs) h =
    let one = h.0.0 in
    let rest = names_same a i fs gs h.1 in
    λ j. is_of i (role_in (Some a) (one j)) && rest j

sets_follow : (a : Algebraic) (m n : Option ℕ) → Says m n → (fs gs : List (ℕ × Part)) → AllSetFollow fs gs → sets_only a m fs ≡ true → sets_only a n gs ≡ true
sets_follow a None n says fs gs h k = cc
sets_follow a (Some i) n says fs gs h k = subst (λ o. sets_only a o gs ≡ true) (sym (says i refl)) (sym (names_same a i fs gs h) ∙ k)

fits_follow : (o : Option Algebraic) (fs gs : List (ℕ × Part)) → AllSetFollow fs gs → new_fits o fs ≡ true → new_fits o gs ≡ true
fits_follow None fs gs h k = refl
fits_follow (Some a) [] gs h k = cc
fits_follow (Some a) (f ∷ fs) [] h k = absurd h
fits_follow (Some a) (f ∷ fs) (g ∷ gs) h k = sets_follow a (made_variant a f) (made_variant a g) (made_says a f g h.0) fs gs h.1 k

set_values : (fs gs : List (ℕ × Part)) → AllSetFollow fs gs → AllFollow (map (λ f. f.1) fs) (map (λ f. f.1) gs)
set_values [] [] h = tt
set_values [] (g ∷ gs) h = absurd h
set_values (f ∷ fs) [] h = absurd h
set_values (f ∷ fs) (g ∷ gs) h = (h.0.1, set_values fs gs h.1)

-- a `new` of what may be algebraic
abbrev pub made : Option Algebraic → List (ℕ × Part) → Span → Part
made o fields s = record (of_parts (map (λ f. f.1) fields)) { breaks = λ tests. unless (new_fits o fields) s (each (map (λ p. p.breaks tests) (map (λ f. f.1) fields))) }

pub made_follows : (o : Option Algebraic) (s s' : Span) (fs gs : List (ℕ × Part)) → AllSetFollow fs gs → Follows (made o fs s) (made o gs s')
made_follows o s s' fs gs h =
    let values = set_values fs gs h in
    record {
      slot = λ x e. cc;
      number = λ x e. cc;
      tag = λ x e. cc;
      test = λ x e. cc;
      may_be = λ x e. e;
      passes = any_passes (map (λ f. f.1) fs) (map (λ f. f.1) gs) values;
      breaks = λ ts us w k.
          let c = unless_none (new_fits o fs) s (each (map (λ p. p.breaks ts) (map (λ f. f.1) fs))) k in
          none_unless (new_fits o gs) s' (each (map (λ p. p.breaks us) (map (λ f. f.1) gs))) (fits_follow o fs gs h c.0) (none_breaks (map (λ f. f.1) fs) (map (λ f. f.1) gs) values ts us w c.1);
    }

-- Patterns: one of their strings

pub pattern_first : {a b : Part} (olds : List Part) → Follows a b → Follows (pattern_part (a ∷ olds)) b
pattern_first {a} olds h = record {
  slot = λ x e. cc;
  number = λ x e. cc;
  tag = λ x e. cc;
  test = λ x e. cc;
  may_be = λ x e. left (a.may_be x) (list_any (λ p. p.may_be x) olds) (h.may_be x e);
  passes = λ x e. left (a.passes x) (list_any (λ p. p.passes x) olds) (h.passes x e);
  breaks = λ ts us w k. h.breaks ts us w (none_first (a.breaks ts) (each (map (λ p. p.breaks ts) olds)) k);
}

pub pattern_later : (a : Part) (olds : List Part) (b : Part) → Follows (pattern_part olds) b → Follows (pattern_part (a ∷ olds)) b
pattern_later a olds b h = record {
  slot = λ x e. cc;
  number = λ x e. cc;
  tag = λ x e. cc;
  test = λ x e. cc;
  may_be = λ x e. right (a.may_be x) (list_any (λ p. p.may_be x) olds) (h.may_be x e);
  passes = λ x e. right (a.passes x) (list_any (λ p. p.passes x) olds) (h.passes x e);
  breaks = λ ts us w k. h.breaks ts us w (none_second (a.breaks ts) (each (map (λ p. p.breaks ts) olds)) k);
}

any_may_be : (olds news : List Part) → AllFollow olds news → (x : ℕ) → list_any (λ p. p.may_be x) news ≡ true → list_any (λ p. p.may_be x) olds ≡ true
any_may_be [] [] h x k = k
any_may_be [] (b ∷ news) h x k = absurd h
any_may_be (a ∷ olds) [] h x k = absurd h
any_may_be (a ∷ olds) (b ∷ news) h x k =
    let rest = any_may_be olds news h.1 x in
    either (b.may_be x) (list_any (λ p. p.may_be x) news) (a.may_be x || list_any (λ p. p.may_be x) olds) (λ e. left (a.may_be x) (list_any (λ p. p.may_be x) olds) (h.0.may_be x e)) (λ e. right (a.may_be x) (list_any (λ p. p.may_be x) olds) (rest e)) k

pub patterns_follow : (olds news : List Part) → AllFollow olds news → Follows (pattern_part olds) (pattern_part news)
patterns_follow olds news h = record { slot = λ x e. cc; number = λ x e. cc; tag = λ x e. cc; test = λ x e. cc; may_be = any_may_be olds news h; passes = any_passes olds news h; breaks = none_breaks olds news h }

pub pattern_wrapped : (olds : List Part) (b : Part) → Follows (pattern_part olds) b → Follows (pattern_part olds) (of_one b)
pattern_wrapped olds b h = record { slot = λ x e. cc; number = λ x e. cc; tag = λ x e. cc; test = λ x e. cc; may_be = λ x e. cc; passes = h.passes; breaks = h.breaks }

-- Statements

-- b touches no more than a, and breaks no rule where a breaks none.
pub record Tracks (a b : Work) : Type 0 where
  pub touches : (x : ℕ) → b.touches x ≡ true → a.touches x ≡ true
  pub breaks : (ts us : List Test) → Within ts us → a.breaks ts ≡ [] → b.breaks us ≡ []

pub idle_tracks : Tracks idle idle
idle_tracks = record { touches = λ x k. k; breaks = λ ts us w k. k }

pub expr_tracks : {a b : Part} → Follows a b → Tracks (of_expr a) (of_expr b)
expr_tracks h = record { touches = h.passes; breaks = h.breaks }

-- whatever holds nothing
pub quiet_tracks : (a : Work) {b : Part} → Follows of_none b → Tracks a (of_expr b)
quiet_tracks a h = record { touches = λ x k. let no : false ≡ true = h.passes x k in cc; breaks = λ ts us w k. h.breaks ts us w refl }

pub both_track : {a b c d : Work} → Tracks a c → Tracks b d → Tracks (both a b) (both c d)
both_track {a} {b} {c} {d} h k = record {
  touches = λ x. either (c.touches x) (d.touches x) (a.touches x || b.touches x) (λ e. left (a.touches x) (b.touches x) (h.touches x e)) (λ e. right (a.touches x) (b.touches x) (k.touches x e));
  breaks = λ ts us w e. none_both (c.breaks us) (d.breaks us) (h.breaks ts us w (none_first (a.breaks ts) (b.breaks ts) e)) (k.breaks ts us w (none_second (a.breaks ts) (b.breaks ts) e));
}

pub touching_tracks : (m n : ℕ → Bool) → ((x : ℕ) → n x ≡ true → m x ≡ true) → {a b : Work} → Tracks a b → Tracks (touching m a) (touching n b)
touching_tracks m n h {a} {b} k = record {
  touches = λ x. either (n x) (b.touches x) (m x || a.touches x) (λ e. left (m x) (a.touches x) (h x e)) (λ e. right (m x) (a.touches x) (k.touches x e));
  breaks = k.breaks;
}

pub later_of : (a : Work) {b c : Work} → Tracks b c → Tracks (both a b) c
later_of a {b} h = record {
  touches = λ x e. right (a.touches x) (b.touches x) (h.touches x e);
  breaks = λ ts us w k. h.breaks ts us w (none_second (a.breaks ts) (b.breaks ts) k);
}

-- one of some works
pub all_first : {a b : Work} (olds : List Work) → Tracks a b → Tracks (all_of (a ∷ olds)) b
all_first {a} olds h = record {
  touches = λ x e. left (a.touches x) (list_any (λ w. w.touches x) olds) (h.touches x e);
  breaks = λ ts us w k. h.breaks ts us w (none_first (a.breaks ts) (each (map (λ v. v.breaks ts) olds)) k);
}

pub all_later : (a : Work) (olds : List Work) (b : Work) → Tracks (all_of olds) b → Tracks (all_of (a ∷ olds)) b
all_later a olds b h = record {
  touches = λ x e. right (a.touches x) (list_any (λ w. w.touches x) olds) (h.touches x e);
  breaks = λ ts us w k. h.breaks ts us w (none_second (a.breaks ts) (each (map (λ v. v.breaks ts) olds)) k);
}

abbrev pub EachTracks : Work → List Work → Type 0
EachTracks a [] = Unit {0}
EachTracks a (b ∷ news) = Tracks a b × EachTracks a news

pub all_track : (a : Work) (news : List Work) → EachTracks a news → Tracks a (all_of news)
all_track a [] h = record { touches = λ x k. cc; breaks = λ ts us w k. refl }
all_track a (b ∷ news) h =
    let rest = all_track a news h.1 in
    record {
      touches = λ x. either (b.touches x) (list_any (λ w. w.touches x) news) (a.touches x) (h.0.touches x) (rest.touches x);
      breaks = λ ts us w k. none_both (b.breaks us) (each (map (λ v. v.breaks us) news)) (h.0.breaks ts us w k) (rest.breaks ts us w k);
    }

-- Conditions

condition_keeps : (t u : Option Test) → ((v : Test) → t ≡ Some v → u ≡ Some v) → {a b : Part} → Follows a b → (ts us : List Test) → Within ts us → condition_breaks t a ts ≡ [] → condition_breaks u b us ≡ []
condition_keeps t (Some v) h k ts us w e = refl
condition_keeps None None h k ts us w e = k.breaks ts us w e
condition_keeps (Some v) None h k ts us w e = let no : None ≡ Some v = h v refl in cc

pub condition_tracks : {a b : Part} → Follows a b → Tracks (condition a) (condition b)
condition_tracks {a} {b} h = record { touches = h.passes; breaks = condition_keeps a.test b.test h.test h }

one_more : (t : Test) (ts us : List Test) → Within ts us → Within ts (t ∷ us)
one_more t ts us w x i e = right ((t.slot == x) && (t.variant == i)) (is_tested (Some x) i us) (w x i e)

both_more : (t : Test) (ts us : List Test) → Within ts us → Within (t ∷ ts) (t ∷ us)
both_more t ts us w x i =
    let here : Bool = (t.slot == x) && (t.variant == i) in
    either here (is_tested (Some x) i ts) (here || is_tested (Some x) i us) (λ e. left here (is_tested (Some x) i us) e) (λ e. right here (is_tested (Some x) i us) (w x i e))

branch_within : (t : Test) (p q : Bool) → (q ≡ true → p ≡ true) → (ts us : List Test) → Within ts us → Within (if p then ts else t ∷ ts) (if q then us else t ∷ us)
branch_within t true true h ts us w = w
branch_within t true false h ts us w = one_more t ts us w
branch_within t false false h ts us w = both_more t ts us w
branch_within t false true h ts us w = let no : false ≡ true = h refl in cc

within_branch : (t u : Option Test) → ((v : Test) → t ≡ Some v → u ≡ Some v) → {a b : Work} → Tracks a b → (ts us : List Test) → Within ts us → Within (tests_within t a ts) (tests_within u b us)
within_branch None None h k ts us w = w
within_branch None (Some v) h {b} k ts us w = branch_within v true (b.touches v.slot) (λ e. refl) ts us w
within_branch (Some t) u h {a} {b} k ts us w = subst (λ o. Within (tests_within (Some t) a ts) (tests_within o b us)) (sym (h t refl)) (branch_within t (a.touches t.slot) (b.touches t.slot) (k.touches t.slot) ts us w)

pub branch_tracks : (t u : Option Test) → ((v : Test) → t ≡ Some v → u ≡ Some v) → {a b : Work} → Tracks a b → Tracks (first_branch t a) (first_branch u b)
branch_tracks t u h {a} {b} k = record { touches = k.touches; breaks = λ ts us w. k.breaks (tests_within t a ts) (tests_within u b us) (within_branch t u h k ts us w) }

pub tested_tracks : {c d : Part} → Follows c d → {a b : Work} → Tracks a b → Tracks (tested c a) (tested d b)
unfolding tested
tested_tracks {c} {d} h k = both_track (condition_tracks h) (branch_tracks c.test d.test h.test k)
