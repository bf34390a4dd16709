-- Turn after turn: one turn opened, and what is kept by each turn is kept by all.
use Rattle.std.proofs.Common.{◌≡◌, ℕ, zero, suc, ◌<◌, ◌≤◌, Bool, true, false, ltb, List, length, Option, Some, None, refl, sym, ap, subst, arith, if◌then◌else◌}
use Rattle.std.proofs.lemmas.Bool.{ltb-true}
use Rattle.sk_tree.specs.declared.token.Token.{Token}
use Rattle.sk_parser_laws.specs.Readers.{◌>>=◌, Reader, turns, repeated, deeper, Fails}
use Rattle.sk_parser_laws.specs.declared.stop.Stop.{Stop}
use Rattle.sk_parser_laws.specs.declared.stop.Stop.TheVariants as stop

abbrev pub pair : {A B : Type 0} → A → B → A × B
pair x y = (x, y)

pub some_pair : {A B : Type 0} (x u : A) (y v : B) → Some (pair x y) ≡ Some (pair u v) → (x ≡ u) × (y ≡ v)
some_pair {A} {B} x u y v e = let p : pair x y ≡ pair u v = cc in (ap (λ (q : A × B). q.0) p, ap (λ (q : A × B). q.1) p)

-- what a step read, and what comes of it
pub bind_ok : {A B : Type 0} (o : Option A) (f : A → Option B) (y : B) → (o >>= f) ≡ Some y → (x : A) × (o ≡ Some x) × (f x ≡ Some y)
bind_ok None f y e = cc
bind_ok (Some x) f y e = (x, refl, e)

pub fails_as : {Y : Type 0} (x : Stop) (o p : Option Y) → o ≡ p → Fails x p → Fails x o
fails_as x o p e f = subst (Fails x) (sym e) f

-- What holds of all that is answered.
pub record Every {A : Type 0} (Q : A → Type 0) (o : Option A) : Type 0 where
  pub each : (a : A) → o ≡ Some a → Q a

pub every_none : {A : Type 0} {Q : A → Type 0} → Every Q None
every_none = record { each = λ a e. absurd (cc) }

pub every_some : {A : Type 0} {Q : A → Type 0} {a : A} → Q a → Every Q (Some a)
every_some {A} {Q} {a} q = record { each = λ b e. let same : a ≡ b = cc in subst Q same q }

pub every_bind : {A B : Type 0} {Q : A → Type 0} {R : B → Type 0} (o : Option A) (f : A → Option B) → Every Q o → ((a : A) → Q a → Every R (f a)) → Every R (o >>= f)
every_bind {R} o f q k = record { each = λ b e. let x = bind_ok o f b e in (k x.0 (q.each x.0 x.1)).each b x.2 }

pub every_if : {A : Type 0} {Q : A → Type 0} (b : Bool) (x y : Option A) → (b ≡ true → Every Q x) → (b ≡ false → Every Q y) → Every Q (if b then x else y)
every_if true x y f g = f refl
every_if false x y f g = g refl

pub every_more : {A : Type 0} {Q R : A → Type 0} {o : Option A} → Every Q o → ((a : A) → Q a → R a) → Every R o
every_more q f = record { each = λ a e. f a (q.each a e) }

pub every_both : {A : Type 0} {Q R : A → Type 0} {o : Option A} → Every Q o → Every R o → Every (λ a. Q a × R a) o
every_both q r = record { each = λ a e. (q.each a e, r.each a e) }

pub every_deeper : (budget depth : ℕ) → Every (λ n. (n ≡ suc depth) × (n ≤ budget)) (deeper budget depth)
unfolding deeper
every_deeper budget depth =
    every_if (ltb depth budget) (Some (suc depth)) None
    (λ e. let less = ltb-true depth budget e in every_some (refl, omega arith))
    (λ e. every_none)

-- each turn takes a token at least
pub record Shrinks {S : Type 0} (turn : S → Reader S) : Type 0 where
  pub takes : (s : S) (ts : List Token) (r : S) (rest : List Token) → turn s ts ≡ Some (pair r rest) → length rest < length ts

module _ {S : Type 0} (ends : List Token → Bool) (turn : S → Reader S) where
  turn_on : ((s : S) (ts : List Token) → Option (S × List Token)) → S → List Token → Option (S × List Token)
  turn_on next s ts = turn s ts >>= λ r. next r.0 r.1

  -- what is left of the turns does not matter where it is enough
  enough : Shrinks turn → (n m : ℕ) (s : S) (ts : List Token) → length ts < n → length ts < m → turns ends turn n s ts ≡ turns ends turn m s ts
  unfolding turns
  enough h zero m s ts a b = absurd (omega arith)
  enough h (suc n) zero s ts a b = absurd (omega arith)
  enough h (suc n) (suc m) s ts a b = go (λ r rest less. enough h n m r rest (omega arith) (omega arith)) (turn s ts) refl (ends ts)
    where
      go : ((r : S) (rest : List Token) → length rest < length ts → turns ends turn n r rest ≡ turns ends turn m r rest) → (o : Option (S × List Token)) → turn s ts ≡ o → (e : Bool) → (if e then Some (s, ts) else (o >>= λ r. turns ends turn n r.0 r.1)) ≡ (if e then Some (s, ts) else (o >>= λ r. turns ends turn m r.0 r.1))
      go again o is true = refl
      go again None is false = refl
      go again (Some r) is false = again r.0 r.1 (h.takes s ts r.0 r.1 is)

  pub repeated_ends : (s : S) (ts : List Token) → ends ts ≡ true → repeated ends turn s ts ≡ Some (pair s ts)
  unfolding repeated turns
  repeated_ends s ts e = rw e refl

  pub repeated_fails : (s : S) (ts : List Token) → ends ts ≡ false → turn s ts ≡ None → repeated ends turn s ts ≡ None
  unfolding repeated turns
  repeated_fails s ts e f = rw (e, f) refl

  pub repeated_more : Shrinks turn → (s : S) (ts : List Token) (r : S) (rest : List Token) → ends ts ≡ false → turn s ts ≡ Some (pair r rest) → repeated ends turn s ts ≡ repeated ends turn r rest
  unfolding repeated turns
  repeated_more h s ts r rest e f =
      let less = h.takes s ts r rest f in
      rw (e, f) (enough h (length ts) (suc (length rest)) r rest (omega arith) (omega arith))

  pub repeated_stops : (x : Stop) (s : S) (ts : List Token) → ends ts ≡ false → Fails x (turn s ts) → Fails x (repeated ends turn s ts)
  repeated_stops stop.NoMemory s ts e f = tt
  repeated_stops (stop.NoReading left) s ts e f = repeated_fails s ts e f

  -- what each turn keeps
  kept : (I : S → List Token → Type 0) → ((s : S) (ts : List Token) → I s ts → ends ts ≡ false → Every (λ x. I x.0 x.1) (turn s ts)) → (n : ℕ) (s : S) (ts : List Token) → I s ts → Every (λ x. I x.0 x.1 × (ends x.1 ≡ true)) (turns ends turn n s ts)
  unfolding turns
  kept I keeps zero s ts i = every_none
  kept I keeps (suc n) s ts i =
      every_if (ends ts) (Some (pair s ts)) (turn s ts >>= λ r. turns ends turn n r.0 r.1)
      (λ e. every_some (i, e))
      (λ e. every_bind (turn s ts) (λ r. turns ends turn n r.0 r.1) (keeps s ts i e) (λ r j. kept I keeps n r.0 r.1 j))

  pub every_repeated : (I : S → List Token → Type 0) → ((s : S) (ts : List Token) → I s ts → ends ts ≡ false → Every (λ x. I x.0 x.1) (turn s ts)) → (s : S) (ts : List Token) → I s ts → Every (λ x. I x.0 x.1 × (ends x.1 ≡ true)) (repeated ends turn s ts)
  unfolding repeated
  every_repeated I keeps s ts i = kept I keeps (suc (length ts)) s ts i
