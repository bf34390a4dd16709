-- The steps of a scan of a clause.
use Rattle.std.proofs.Common.{◌≡◌, ◌≢◌, ◌⊎◌, inl, inr, Bool, ℕ, ◌+◌, ◌<◌, ◌≤◌, ◌++◌, List, [], ◌∷◌, length, get_or, take, sym, ◌∙◌, ap, arith, subst, Option, Some, None}
use Rattle.std.specs.Prelude.{All, Contains}
use Rattle.std.proofs.lemmas.List.{take_more, length-take-le, get_or-take, get_or_default}
use Rattle.std.proofs.lemmas.List.Elements.{Contains-push_cases, Contains-push, Contains-append_left, All-more, All-contains}
use Rattle.sk_clause.specs.declared.lit.Lit.{Lit}
use Rattle.sk_clause.specs.Values.{Holds, Fails, IsOpen, IsSettled, LeavesOne}

-- of the literals so far, which is the one with no value, or none
abbrev pub SoFar : List (Option Bool) → List Lit → Option Lit → Type 0
SoFar values c None = All (Fails values) c
SoFar values c (Some l) = LeavesOne values c l

-- what is in one more
more_cases : (c : List Lit) (i : ℕ) (x m : Lit) → i < length c → x ≡ get_or c i x → Contains (take (i + 1) c) m → Contains (take i c) m ⊎ (x ≡ m)
more_cases c i x m l e h = Contains-push_cases (take i c) x m (let t : take (i + 1) c ≡ take i c ++ x ∷ [] = take_more c i x l ∙ ap (λ y. take i c ++ y ∷ []) (sym e) in rw t at h)

more_same : (c : List Lit) (i : ℕ) (x : Lit) → i < length c → x ≡ get_or c i x → take i c ++ x ∷ [] ≡ take (i + 1) c
more_same c i x l e = sym (take_more c i x l ∙ ap (λ y. take i c ++ y ∷ []) (sym e))

more_there : (c : List Lit) (i : ℕ) (x m : Lit) → i < length c → x ≡ get_or c i x → Contains (take i c) m → Contains (take (i + 1) c) m
more_there c i x m l e h = subst (λ y. Contains y m) (more_same c i x l e) (Contains-append_left (take i c) (x ∷ []) m h)

more_here : (c : List Lit) (i : ℕ) (x : Lit) → i < length c → x ≡ get_or c i x → Contains (take (i + 1) c) x
more_here c i x l e = subst (λ y. Contains y x) (more_same c i x l e) (Contains-push (take i c) x)

pub front_there : (c : List Lit) (i : ℕ) (m : Lit) → i ≤ length c → Contains (take i c) m → Contains c m
front_there c i m l h = let k : h.0 < i = omega (arith, h.1, length-take-le i c l) in (h.0, omega arith, sym (get_or-take i c h.0 m k) ∙ h.2)

pub Contains-read : (c : List Lit) (i : ℕ) (x : Lit) → i < length c → x ≡ get_or c i x → Contains c x
Contains-read c i x l e = (i, l, sym e)

module _ (values : List (Option Bool)) (c : List Lit) (i : ℕ) (d : Lit) (l : i < length c) where
  same_read : get_or c i d ≡ get_or c i (get_or c i d)
  same_read = get_or_default c i d (get_or c i d) l

  pub SoFar-fails : (open' : Option Lit) → SoFar values (take i c) open' → Fails values (get_or c i d) → SoFar values (take (i + 1) c) open'
  SoFar-fails None h f = All-more (Fails values) c i d l h f
  SoFar-fails (Some a) h f = record {
    there = more_there c i (get_or c i d) a l same_read h.there;
    vacant = h.vacant;
    others = λ m w other. elim (more_cases c i (get_or c i d) m l same_read w) [ inl k ↦ h.others m k other | inr same ↦ subst (Fails values) same f ];
  }

  pub SoFar-first : SoFar values (take i c) None → IsOpen values (get_or c i d) → SoFar values (take (i + 1) c) (Some (get_or c i d))
  SoFar-first h o = record {
    there = more_here c i (get_or c i d) l same_read;
    vacant = o;
    others = λ m w other. elim (more_cases c i (get_or c i d) m l same_read w) [ inl k ↦ All-contains (Fails values) (take i c) m h k | inr same ↦ absurd (other (sym same)) ];
  }

  pub SoFar-again : (a : Lit) → SoFar values (take i c) (Some a) → a ≡ get_or c i d → SoFar values (take (i + 1) c) (Some a)
  SoFar-again a h s = record {
    there = more_there c i (get_or c i d) a l same_read h.there;
    vacant = h.vacant;
    others = λ m w other. elim (more_cases c i (get_or c i d) m l same_read w) [ inl k ↦ h.others m k other | inr same ↦ absurd (other (sym same ∙ sym s)) ];
  }

  pub settled_two : (a : Lit) → SoFar values (take i c) (Some a) → a ≢ get_or c i d → IsOpen values (get_or c i d) → IsSettled values c
  settled_two a h s o = inr (a, get_or c i d, front_there c i a (omega arith) h.there, (i, l, sym same_read), s, h.vacant, o)

  pub settled_true : Holds values (get_or c i d) → IsSettled values c
  settled_true h = inl (get_or c i d, (i, l, sym same_read), h)

pub ruleset scans = (SoFar-fails, SoFar-first, SoFar-again, settled_two, settled_true)
