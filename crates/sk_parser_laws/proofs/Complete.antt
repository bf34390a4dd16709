-- Reading what is spelt: steps of readers, cuts of tokens, and things one after another.
use Rattle.std.proofs.Common.{◌≡◌, ℕ, suc, ◌<◌, Bool, true, false, ltb, List, [], ◌∷◌, ◌++◌, Option, Some, None, refl, sym, ap, ◌∙◌, subst, append_assoc, if◌then◌else◌}
use Rattle.std.proofs.lemmas.Bool.{lt-ltb}
use Rattle.sk_base.specs.declared.span.Span.{Span}
use Rattle.sk_tree.specs.declared.token.Token.{Token}
use Rattle.sk_tree.specs.declared.token.Kind.{Kind}
use Rattle.sk_tree.specs.declared.token.Kind.TheVariants as kind
use Rattle.sk_tree.specs.declared.token.Mark.{Mark}
use Rattle.sk_tree.specs.declared.token.Key.{Key}
use Rattle.sk_tree.specs.Phrase.{Phrase, One, ◌▸◌, Each, Behind, span_of}
use Rattle.sk_parser_laws.specs.Readers.{◌>>=◌, Reader, mark_at, mark_ahead, key_at, key_ahead, word_at, number_at, text_at, repeated, deeper, span_between}
use Rattle.sk_parser_laws.proofs.Loops.{pair, Shrinks, repeated_ends, repeated_more}
use Rattle.sk_parser_laws.proofs.Seen.{token, taken_is, mark_here, mark_there, key_here, key_there, word_here, number_here, text_here}

pub bind_is : {A B : Type 0} (o : Option A) (f : A → Option B) {a : A} {r : Option B} → o ≡ Some a → f a ≡ r → (o >>= f) ≡ r
bind_is o f e g = ap (λ p. p >>= f) e ∙ g

pub bind_assoc : {A B C : Type 0} (o : Option A) (f : A → Option B) (g : B → Option C) → (o >>= λ a. (f a >>= g)) ≡ ((o >>= f) >>= g)
bind_assoc None f g = refl
bind_assoc (Some a) f g = refl

pub if_yes : {A : Type 0} (b : Bool) (x y : A) {r : A} → b ≡ true → x ≡ r → (if b then x else y) ≡ r
if_yes b x y e g = ap (λ c. if c then x else y) e ∙ g

pub if_no : {A : Type 0} (b : Bool) (x y : A) {r : A} → b ≡ false → y ≡ r → (if b then x else y) ≡ r
if_no b x y e g = ap (λ c. if c then x else y) e ∙ g

pub deeper_is : (budget depth : ℕ) → depth < budget → deeper budget depth ≡ Some (suc depth)
unfolding deeper
deeper_is budget depth h = if_yes (ltb depth budget) (Some (suc depth)) None (lt-ltb depth budget h) refl

-- the rest goes to the part behind
pub cut : (xs ys : List Token) {ts : List Token} → ts ≡ xs ++ ys → (rest : List Token) → ts ++ rest ≡ xs ++ (ys ++ rest)
cut xs ys e rest = ap (λ l. l ++ rest) e ∙ append_assoc xs ys rest

pub span_take : (ts rest : List Token) → span_between (ts ++ rest) rest ≡ span_of ts
span_take ts rest = taken_is {P = λ _. Unit {0}} (record { front = ts; split = refl; spelt = tt })

-- a phrase that begins with one token
pub record First (k : Kind) (Q : Phrase) (ts : List Token) : Type 0 where
  pub at : Span
  pub behind : List Token
  pub is : ts ≡ token k at ∷ behind
  pub then_ : Q behind

pub first : {k : Kind} {Q : Phrase} {ts : List Token} → (One k ▸ Q) ts → First k Q ts
first (us, ys, is, (s, isu), q) = record { at = s; behind = ys; is = is ∙ ap (λ l. l ++ ys) isu; then_ = q }

pub mark_read : (m : Mark) (ts : List Token) (s : Span) (ys rest : List Token) → ts ≡ token (kind.Mark m) s ∷ ys → mark_at m (ts ++ rest) ≡ Some (ys ++ rest)
mark_read m ts s ys rest e = ap (λ l. mark_at m (l ++ rest)) e ∙ mark_here m s (ys ++ rest)

pub mark_seen : (m : Mark) (ts : List Token) (s : Span) (ys rest : List Token) → ts ≡ token (kind.Mark m) s ∷ ys → mark_ahead m (ts ++ rest) ≡ true
mark_seen m ts s ys rest e = ap (λ l. mark_ahead m (l ++ rest)) e ∙ mark_there m s (ys ++ rest)

pub word_read : (x : List ℕ) (ts : List Token) (s : Span) (ys rest : List Token) → ts ≡ token (kind.Word x) s ∷ ys → word_at (ts ++ rest) ≡ Some (pair x (ys ++ rest))
word_read x ts s ys rest e = ap (λ l. word_at (l ++ rest)) e ∙ word_here x s (ys ++ rest)

pub number_read : (n : ℕ) (ts : List Token) (s : Span) (ys rest : List Token) → ts ≡ token (kind.Number n) s ∷ ys → number_at (ts ++ rest) ≡ Some (pair n (ys ++ rest))
number_read n ts s ys rest e = ap (λ l. number_at (l ++ rest)) e ∙ number_here n s (ys ++ rest)

pub text_read : (x : List ℕ) (ts : List Token) (s : Span) (ys rest : List Token) → ts ≡ token (kind.Text x) s ∷ ys → text_at (ts ++ rest) ≡ Some (pair x (ys ++ rest))
text_read x ts s ys rest e = ap (λ l. text_at (l ++ rest)) e ∙ text_here x s (ys ++ rest)

pub key_read : (m : Key) (ts : List Token) (s : Span) (ys rest : List Token) → ts ≡ token (kind.Key m) s ∷ ys → key_at m (ts ++ rest) ≡ Some (ys ++ rest)
key_read m ts s ys rest e = ap (λ l. key_at m (l ++ rest)) e ∙ key_here m s (ys ++ rest)

pub key_seen : (m : Key) (ts : List Token) (s : Span) (ys rest : List Token) → ts ≡ token (kind.Key m) s ∷ ys → key_ahead m (ts ++ rest) ≡ true
key_seen m ts s ys rest e = ap (λ l. key_ahead m (l ++ rest)) e ∙ key_there m s (ys ++ rest)

-- no word stands where a mark does
pub unworded : (m : Mark) (ts : List Token) (s : Span) (ys rest : List Token) → ts ≡ token (kind.Mark m) s ∷ ys → word_at (ts ++ rest) ≡ None
unfolding word_at
unworded m ts s ys rest e = ap (λ l. word_at (l ++ rest)) e

-- no mark stands where a word does
pub unmarked : (m : Mark) (x : List ℕ) (ts : List Token) (s : Span) (ys rest : List Token) → ts ≡ token (kind.Word x) s ∷ ys → mark_ahead m (ts ++ rest) ≡ false
unfolding mark_ahead
unmarked m x ts s ys rest e = ap (λ l. mark_ahead m (l ++ rest)) e

-- all of a list are so
abbrev pub AllAre : {A : Type 0} → (A → Type 0) → List A → Type 0
AllAre Q [] = Unit {0}
AllAre Q (a ∷ rest) = Q a × AllAre Q rest

pub behind_each : {A : Type 0} (S : Phrase) (P : A → Phrase) (xs : List A) (ts : List Token) → Behind S P xs ts → Each (λ a. S ▸ P a) xs ts
behind_each S P [] ts h = h
behind_each S P (x ∷ xs) ts (us, vs, is, s, (ws, zs, is', p, more)) =
    (us ++ ws, zs, is ∙ ap (λ l. us ++ l) is' ∙ sym (append_assoc us ws zs), (us, ws, refl, s, p), behind_each S P xs zs more)

-- those that were read, behind what was read before
abbrev pub pushed : {S A : Type 0} → (S → A → S) → S → List A → S
pushed push s [] = s
pushed push s (a ∷ rest) = pushed push (push s a) rest

module _ {S A : Type 0} (ends : List Token → Bool) (turn : S → Reader S) (shrinks : Shrinks turn) (P : A → Phrase) (push : S → A → S) (Ok : A → Type 0) (Follow : List Token → Type 0) (one : (s : S) (a : A) (ts rest : List Token) → Ok a → P a ts → Follow rest → turn s (ts ++ rest) ≡ Some (pair (push s a) rest)) (still : (a : A) (ts rest : List Token) → P a ts → ends (ts ++ rest) ≡ false) (follows : (a : A) (ts rest : List Token) → P a ts → Follow (ts ++ rest)) where
  next_follow : (later : List A) (ts rest : List Token) → Each P later ts → Follow rest → Follow (ts ++ rest)
  next_follow [] ts rest h f = subst (λ l. Follow (l ++ rest)) (sym h) f
  next_follow (a ∷ later) ts rest (xs, ys, is, p, more) f = subst Follow (sym (cut _ _ is rest)) (follows a xs (ys ++ rest) p)

  pub each_read : (later : List A) (s : S) (ts rest : List Token) → AllAre Ok later → Each P later ts → Follow rest → ends rest ≡ true → repeated ends turn s (ts ++ rest) ≡ Some (pair (pushed push s later) rest)
  each_read [] s ts rest ok h f e = ap (λ l. repeated ends turn s (l ++ rest)) h ∙ repeated_ends ends turn s rest e
  each_read (a ∷ later) s ts rest ok (xs, ys, is, p, more) f e =
      ap (repeated ends turn s) (cut _ _ is rest)
      ∙ repeated_more ends turn shrinks s (xs ++ (ys ++ rest)) (push s a) (ys ++ rest) (still a xs (ys ++ rest) p) (one s a xs (ys ++ rest) ok.0 p (next_follow later ys rest more f))
      ∙ each_read later (push s a) ys rest ok.1 more f e
