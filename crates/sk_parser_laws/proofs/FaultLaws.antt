-- What the tally of a walk over patterns says of them.
use Rattle.std.proofs.Common.{◌≡◌, ℕ, zero, suc, ◌<◌, ◌≤◌, Bool, true, false, not, ◌||◌, leb, List, [], ◌∷◌, length, Contains, ◌⊎◌, inl, inr, slice_index_or, Option, Some, None, refl, sym, ◌∙◌, subst, arith, if◌then◌else◌}
use Rattle.std.proofs.lemmas.Bool.{leb-true, leb-false}
use Rattle.sk_tree.specs.declared.pattern.Pattern.{Pattern}
use Rattle.sk_tree.specs.declared.expr.Expr.{Expr}
use Rattle.sk_tree.specs.Strings.{strings_of}
use Rattle.sk_tree.specs.Spelt.{is_there, HasTooMany, HasBad}
use Rattle.sk_tree.specs.Patterns.{Patterns}
use Rattle.sk_parser_laws.specs.StringReader.{strings_at}
use Rattle.sk_parser_laws.specs.Faults.{Tally, strings_seen, seen, all_seen}
use Rattle.sk_parser_laws.proofs.Texts.{one_bad, bad_none}

-- What the tally says of one pattern

read_none : (p : Pattern) → strings_at [] (strings_of p) ≡ None → HasBad p
read_none p e = one_bad (strings_of p) [] e

bad_reads : (p : Pattern) → HasBad p → strings_at [] (strings_of p) ≡ None
bad_reads p h = bad_none (strings_of p) [] h.0 h.1.0 h.1.1 h.1.2 h.2

-- what one pattern adds
pub record Adds (t : Tally) (p : Pattern) (u : Tally) : Type 0 where
  pub many : u.too_many ≡ true → (t.too_many ≡ true) ⊎ HasTooMany p
  pub not_many : u.too_many ≡ false → (t.too_many ≡ false) × (HasTooMany p → ⊥)
  pub bad : u.bad ≡ true → (t.bad ≡ true) ⊎ HasBad p
  pub not_bad : u.too_many ≡ false → u.bad ≡ false → (t.bad ≡ false) × (HasBad p → ⊥)

or_true : (b c : Bool) → (b || c) ≡ true → (b ≡ true) ⊎ (c ≡ true)
or_true true c h = inl refl
or_true false c h = inr h

or_false : (b c : Bool) → (b || c) ≡ false → (b ≡ false) × (c ≡ false)
or_false true c h = cc
or_false false c h = (refl, h)

off : {A : Type 0} → true ≡ false → A
off e = absurd (cc)

seen_adds : (t : Tally) (p : Pattern) → Adds t p (seen t p)
unfolding seen strings_seen
seen_adds t p = go (leb (length (strings_of p)) 128) refl (strings_at [] (strings_of p)) refl
  where
    go : (few : Bool) → leb (length (strings_of p)) 128 ≡ few → (o : Option (List Expr)) → strings_at [] (strings_of p) ≡ o → Adds t p (if few then record { too_many = t.too_many; bad = t.bad || not (is_there o) } else record { too_many = true; bad = t.bad })
    go true h None is =
        let few : length (strings_of p) ≤ 128 = leb-true (length (strings_of p)) 128 h in
        record {
          many = λ e. inl e;
          not_many = λ e. (e, λ many. absurd (omega (arith, few, many)));
          bad = λ e. inr (read_none p is);
          not_bad = λ e f. off (or_false t.bad true f).1;
        }
    go true h (Some es) is =
        let few : length (strings_of p) ≤ 128 = leb-true (length (strings_of p)) 128 h in
        record {
          many = λ e. inl e;
          not_many = λ e. (e, λ many. absurd (omega (arith, few, many)));
          bad = λ e. elim (or_true t.bad false e) [ inl x ↦ inl x | inr y ↦ off (sym y) ];
          not_bad = λ e f. ((or_false t.bad false f).0, λ b. let bad : Some es ≡ None = sym is ∙ bad_reads p b in absurd (cc));
        }
    go false h o is =
        let more : 128 < length (strings_of p) = leb-false (length (strings_of p)) 128 h in
        record { many = λ e. inr more; not_many = λ e. off e; bad = λ e. inl e; not_bad = λ e f. off e }

-- What the tally says of all

-- one of them is so
abbrev pub Some_is : (Pattern → Type 0) → Patterns → Type 0
Some_is Q ps = (p : Pattern) × Contains ps p × Q p

pub record AllAdd (t : Tally) (ps : Patterns) (u : Tally) : Type 0 where
  pub many : u.too_many ≡ true → (t.too_many ≡ true) ⊎ Some_is HasTooMany ps
  pub not_many : u.too_many ≡ false → (t.too_many ≡ false) × (Some_is HasTooMany ps → ⊥)
  pub bad : u.bad ≡ true → (t.bad ≡ true) ⊎ Some_is HasBad ps
  pub not_bad : u.too_many ≡ false → u.bad ≡ false → (t.bad ≡ false) × (Some_is HasBad ps → ⊥)

none_is : {Q : Pattern → Type 0} → Some_is Q [] → ⊥
none_is s = absurd (omega (arith, s.1.1))

this_is : {Q : Pattern → Type 0} (p : Pattern) (ps : Patterns) → Q p → Some_is Q (p ∷ ps)
this_is p ps q = (p, (0, omega arith, refl), q)

later_is : {Q : Pattern → Type 0} (p : Pattern) (ps : Patterns) → Some_is Q ps → Some_is Q (p ∷ ps)
later_is p ps s = (s.0, (suc s.1.0, omega (arith, s.1.1), s.1.2), s.2)

neither_at : {Q : Pattern → Type 0} (p : Pattern) (ps : Patterns) → (Q p → ⊥) → (Some_is Q ps → ⊥) → (r : Pattern) (k : ℕ) → k < length (p ∷ ps) → slice_index_or (p ∷ ps) k r ≡ r → Q r → ⊥
neither_at {Q} p ps f g r zero less is q = f (subst Q (sym is) q)
neither_at p ps f g r (suc k) less is q = g (r, (k, omega arith, is), q)

neither_is : {Q : Pattern → Type 0} (p : Pattern) (ps : Patterns) → (Q p → ⊥) → (Some_is Q ps → ⊥) → Some_is Q (p ∷ ps) → ⊥
neither_is p ps f g s = neither_at p ps f g s.0 s.1.0 s.1.1 s.1.2 s.2

pub all_add : (t : Tally) (ps : Patterns) → AllAdd t ps (all_seen t ps)
unfolding all_seen
all_add t [] = record {
  many = λ e. inl e;
  not_many = λ e. (e, λ s. none_is s);
  bad = λ e. inl e;
  not_bad = λ e f. (f, λ s. none_is s);
}
all_add t (p ∷ ps) =
    let a = seen_adds t p in
    let r = all_add (seen t p) ps in
    record {
      many = λ e. elim (r.many e) [ inl x ↦ elim (a.many x) [ inl y ↦ inl y | inr y ↦ inr (this_is p ps y) ] | inr x ↦ inr (later_is p ps x) ];
      not_many = λ e. let x = r.not_many e in let y = a.not_many x.0 in (y.0, λ s. neither_is p ps y.1 x.1 s);
      bad = λ e. elim (r.bad e) [ inl x ↦ elim (a.bad x) [ inl y ↦ inl y | inr y ↦ inr (this_is p ps y) ] | inr x ↦ inr (later_is p ps x) ];
      not_bad = λ e f. let x = r.not_bad e f in let y = a.not_bad (r.not_many e).0 x.0 in (y.0, λ s. neither_is p ps y.1 x.1 s);
    }
