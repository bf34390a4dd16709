-- How steps of propagation follow one another.
use Rattle.std.proofs.Common.{◌≡◌, inl, inr, Bool, ℕ, ◌<◌, ◌++◌, List, [], ◌∷◌, length, get_or, take, refl, sym, ◌∙◌, ap, arith, subst, Option}
use Rattle.std.specs.Prelude.{Contains, All}
use Rattle.std.proofs.lemmas.List.{take_at, take_all, take-take, length_push}
use Rattle.std.proofs.lemmas.List.Elements.{Contains-push_cases, Contains-get_or, All-contains}
use Rattle.sk_clause.specs.declared.lit.Lit.{Lit}
use Rattle.sk_clause.specs.Problem.{AreWithin}
use Rattle.sk_clause.specs.Meaning.{negated, Closure, forced}
use Rattle.sk_clause.specs.Values.{Holds, Fails, LeavesOne, assigned, open_count}
use Rattle.sk_clause.proofs.ValueLemmas.{negated_holds, Holds-assigned_kept, open_count-assigned, length-assigned, LeavesOne_var}
use Rattle.sk_rup.specs.declared.trail.Trail.{Trail}
use Rattle.sk_rup.specs.Steps.{Covers, Conflicts, Steps}

pub steps_same : (known : List (List Lit)) (t : Trail) → Covers t.values.items t.lits.items → Steps known t t
steps_same known t c = record {
  long = refl;
  covers = c;
  front = take_all (length t.lits.items) t.lits.items (omega arith);
  more = omega arith;
  fewer = omega arith;
  keeps = λ l h. h;
  derives = λ d h. h;
}

pub steps_more : (known : List (List Lit)) (a b c : Trail) → Steps known a b → Steps known b c → Steps known a c
steps_more known a b c x y = record {
  long = y.long ∙ x.long;
  covers = y.covers;
  front = sym (take-take (length a.lits.items) (length b.lits.items) c.lits.items x.more) ∙ ap (take (length a.lits.items)) y.front ∙ x.front;
  more = omega (arith, x.more, y.more);
  fewer = omega (arith, x.fewer, y.fewer);
  keeps = λ l h. y.keeps l (x.keeps l h);
  derives = λ d h. y.derives d (x.derives d h);
}

-- the literal that a clause forces is in the closure
pub steps_forced : (known : List (List Lit)) (old new : Trail) (i : ℕ) (l : Lit) → Covers old.values.items old.lits.items → Covers new.values.items new.lits.items → AreWithin (length old.values.items) known → i < length known
    → LeavesOne old.values.items (get_or known i []) l → new.values.items ≡ assigned old.values.items l → new.lits.items ≡ old.lits.items ++ l ∷ [] → Steps known old new
steps_forced known old new i l c d w h one vs ls =
    let var : l.var < length old.values.items = LeavesOne_var old.values.items (get_or known i []) l one (length old.values.items) (w i [] h) in
    record {
      long = ap length vs ∙ length-assigned old.values.items l;
      covers = d;
      front = ap (take (length old.lits.items)) ls ∙ take_at old.lits.items (l ∷ []) (length old.lits.items) refl;
      more = omega (arith, ap length ls, length_push old.lits.items l);
      fewer = omega (arith, ap open_count vs, open_count-assigned old.values.items l var one.vacant);
      keeps = λ m k. subst (λ x. Holds x m) (sym vs) (Holds-assigned_kept old.values.items l m one.vacant k);
      derives = λ e k. record {
        each = λ m there. elim (Contains-push_cases old.lits.items l m (subst (λ x. Contains x m) ls there)) [
          | inl before ↦ k.each m before
          | inr same ↦ subst (Closure known e) same (forced (get_or known i []) (Contains-get_or known i [] h) one.there
              (λ m within other. k.each (negated m) (c.there (negated m) (negated_holds old.values.items m (one.others m within other)))))
        ];
      };
    }

pub fewer_forced : (known : List (List Lit)) (old new : Trail) (i : ℕ) (l : Lit) → AreWithin (length old.values.items) known → i < length known
    → LeavesOne old.values.items (get_or known i []) l → new.values.items ≡ assigned old.values.items l → open_count new.values.items < open_count old.values.items
fewer_forced known old new i l w h one vs =
    let var : l.var < length old.values.items = LeavesOne_var old.values.items (get_or known i []) l one (length old.values.items) (w i [] h) in
    omega (arith, ap open_count vs, open_count-assigned old.values.items l var one.vacant)

pub var_forced : (known : List (List Lit)) (n : ℕ) (i : ℕ) (vs : List (Option Bool)) (l : Lit) → AreWithin n known → i < length known → LeavesOne vs (get_or known i []) l → l.var < n
var_forced known n i vs l w h one = LeavesOne_var vs (get_or known i []) l one n (w i [] h)

pub conflict_seen : (known : List (List Lit)) (vs : List (Option Bool)) (ls : List Lit) (i : ℕ) → Covers vs ls → i < length known → All (Fails vs) (get_or known i []) → Conflicts known ls
conflict_seen known vs ls i c h f = record {
  falsifies = λ e k. (get_or known i [], Contains-get_or known i [] h, λ m within. k.each (negated m) (c.there (negated m) (negated_holds vs m (All-contains (Fails vs) (get_or known i []) m f within))));
}

-- a conflict after steps is one before them
pub conflict_back : (known : List (List Lit)) (a b : Trail) → Steps known a b → Conflicts known b.lits.items → Conflicts known a.lits.items
conflict_back known a b s h = record { falsifies = λ c d. h.falsifies c (s.derives c d) }

pub within_after : (known : List (List Lit)) (a b : Trail) → Steps known a b → AreWithin (length a.values.items) known → AreWithin (length b.values.items) known
within_after known a b s h = subst (λ n. AreWithin n known) (sym s.long) h

pub ruleset steps = (steps_same, steps_more, within_after)
