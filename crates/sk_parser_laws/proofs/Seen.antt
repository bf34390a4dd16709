-- What stands at the front of tokens, spelt as a phrase.
use Rattle.std.proofs.Common.{◌≡◌, ℕ, ◌-◌, ◌<◌, ◌≤◌, true, List, [], ◌∷◌, ◌++◌, length, take, Some, None, refl, sym, ap, ◌∙◌, subst, arith, get_or, append_assoc, append-nil, length-append, suc}
use Rattle.std.proofs.lemmas.Bool.{eqb-true, eq-eqb}
use Rattle.sk_base.specs.declared.span.Span.{Span}
use Rattle.sk_tree.specs.declared.token.Token.{Token}
use Rattle.sk_tree.specs.declared.token.Kind.{Kind}
use Rattle.sk_tree.specs.declared.token.Kind.TheVariants as kind
use Rattle.sk_tree.specs.declared.token.Mark.{Mark}
use Rattle.sk_tree.specs.declared.token.Mark.TheVariants as mark
use Rattle.sk_tree.specs.declared.token.Key.{Key}
use Rattle.sk_tree.specs.declared.token.Key.TheVariants as key
use Rattle.sk_tree.specs.Spelt.{are_some}
use Rattle.sk_tree.specs.Phrase.{Phrase, Nothing, Given, One, ◌▸◌, Each, Behind, Between, span_of}
use Rattle.sk_parser_laws.specs.Readers.{mark_code, key_code, is_mark, is_key, mark_ahead, mark_at, key_ahead, key_at, word_kind, word_at, number_kind, number_at, text_kind, text_at, taken, span_between}
use Rattle.sk_parser_laws.proofs.Loops.{pair, Every, every_none, every_some, every_if}

abbrev pub token : Kind → Span → Token
token k s = record { kind = k; span = s }

-- the phrase is spelt at the front, and the rest follows
pub record Seen (P : Phrase) (ts rest : List Token) : Type 0 where
  pub front : List Token
  pub split : ts ≡ front ++ rest
  pub spelt : P front

pub seen_then : {P Q : Phrase} {ts mid rest : List Token} → Seen P ts mid → Seen Q mid rest → Seen (P ▸ Q) ts rest
seen_then {rest = rest} f g = record {
  front = f.front ++ g.front;
  split = f.split ∙ ap (λ l. f.front ++ l) g.split ∙ sym (append_assoc f.front g.front rest);
  spelt = (f.front, g.front, refl, f.spelt, g.spelt);
}

-- one phrase of several, before another
pub seen_splice : (P Q R S : Phrase) {ts rest : List Token} → Seen ((P ▸ Q ▸ R) ▸ S) ts rest → Seen (P ▸ Q ▸ R ▸ S) ts rest
seen_splice P Q R S f = record { front = f.front; split = f.split; spelt = splice f.spelt }
  where
    splice : {ts : List Token} → ((P ▸ Q ▸ R) ▸ S) ts → (P ▸ Q ▸ R ▸ S) ts
    splice (us, zs, is, (xs, ys, is', p, (vs, ws, is'', q, r)), s) =
        (xs, ys ++ zs, is ∙ ap (λ l. l ++ zs) is' ∙ append_assoc xs ys zs, p, (vs, ws ++ zs, ap (λ l. l ++ zs) is'' ∙ append_assoc vs ws zs, q, (ws, zs, refl, r, s)))

pub seen_nothing : {ts : List Token} → Seen Nothing ts ts
seen_nothing = record { front = []; split = refl; spelt = refl }

pub seen_given : {T : Type 0} {P : Phrase} {ts rest : List Token} → T → Seen P ts rest → Seen (Given T P) ts rest
seen_given t f = record { front = f.front; split = f.split; spelt = (t, f.spelt) }

pub seen_one : (k : Kind) (s : Span) (ts : List Token) → Seen (One k) (token k s ∷ ts) ts
seen_one k s ts = record { front = token k s ∷ []; split = refl; spelt = (s, refl) }

pub seen_as : {P Q : Phrase} {ts rest : List Token} → P ≡ Q → Seen P ts rest → Seen Q ts rest
seen_as {ts = ts} {rest = rest} e f = subst (λ (R : Phrase). Seen R ts rest) e f

pub seen_no_more : {P : Phrase} {ts rest : List Token} → Seen P ts rest → length rest ≤ length ts
seen_no_more {rest = rest} f = omega (arith, ap length f.split, length-append f.front rest)

-- the tokens up to the rest are those of the phrase
take_front : (front rest : List Token) → take (length (front ++ rest) - length rest) (front ++ rest) ≡ front
take_front [] [] = refl
take_front [] (t ∷ ts) = let e : length (t ∷ ts) - length (t ∷ ts) ≡ 0 = omega arith in rw e refl
take_front (t ∷ front) rest =
    let e : length (t ∷ (front ++ rest)) - length rest ≡ suc (length (front ++ rest) - length rest) = omega (arith, length-append front rest) in
    rw e (ap (λ l. t ∷ l) (take_front front rest))

pub taken_is : {P : Phrase} {ts rest : List Token} (f : Seen P ts rest) → span_between ts rest ≡ span_of f.front
unfolding span_between taken
taken_is {rest = rest} f = ap (λ l. span_of (take (length l - length rest) l)) f.split ∙ ap span_of (take_front f.front rest)

-- One token

abbrev mark_from : ℕ → Mark
mark_from n = get_or (mark.OpenPattern ∷ mark.ClosePattern ∷ mark.Hole ∷ mark.DoubleColon ∷ mark.Equal ∷ mark.NotEqual ∷ mark.AtMost ∷ mark.AtLeast ∷ mark.ShiftLeft ∷ mark.ShiftRight ∷ mark.AndThen ∷ mark.OrElse ∷ mark.Increment ∷ mark.Decrement ∷ mark.AddAssign ∷ mark.SubAssign ∷ mark.Plus ∷ mark.Minus ∷ mark.Star ∷ mark.Slash ∷ mark.Percent ∷ mark.Tilde ∷ mark.Bang ∷ mark.Ampersand ∷ mark.Bar ∷ mark.Caret ∷ mark.Less ∷ mark.Greater ∷ mark.Assign ∷ mark.OpenParen ∷ mark.CloseParen ∷ mark.OpenBrace ∷ mark.CloseBrace ∷ mark.OpenBracket ∷ mark.CloseBracket ∷ mark.Comma ∷ mark.Semicolon ∷ mark.Dot ∷ mark.Question ∷ mark.Colon ∷ []) n mark.Hole

mark_from-code : (m : Mark) → mark_from (mark_code m) ≡ m
mark_from-code mark.Hole = refl
mark_from-code _ = refl

abbrev key_from : ℕ → Key
key_from n = get_or (key.Adt ∷ key.Assert ∷ key.Assume ∷ key.Bit ∷ key.Case ∷ key.Else ∷ key.False ∷ key.For ∷ key.Generator ∷ key.Harness ∷ key.If ∷ key.Implements ∷ key.Int ∷ key.Minimize ∷ key.Minrepeat ∷ key.New ∷ key.Null ∷ key.Pragma ∷ key.Ref ∷ key.Reorder ∷ key.Repeat ∷ key.Return ∷ key.Struct ∷ key.Switch ∷ key.True ∷ key.Void ∷ key.While ∷ []) n key.If

key_from-code : (k : Key) → key_from (key_code k) ≡ k
key_from-code key.If = refl
key_from-code _ = refl

-- a token of this kind is at the front, and the rest follows
pub record Stands (k : Kind) (ts rest : List Token) : Type 0 where
  pub at : Span
  pub is : ts ≡ token k at ∷ rest

pub seen_stands : {k : Kind} {ts rest : List Token} → Stands k ts rest → Seen (One k) ts rest
seen_stands {k} {rest = rest} f = record { front = token k f.at ∷ []; split = f.is; spelt = (f.at, refl) }

pub stands_less : {k : Kind} {ts rest : List Token} → Stands k ts rest → length rest < length ts
stands_less f = omega (arith, ap length f.is)

mark_kind_is : (m : Mark) (k : Kind) → is_mark m k ≡ true → k ≡ kind.Mark m
mark_kind_is m (kind.Mark n) h = ap kind.Mark (sym (mark_from-code n) ∙ ap mark_from (eqb-true (mark_code n) (mark_code m) h) ∙ mark_from-code m)
mark_kind_is m (kind.Word x) h = cc
mark_kind_is m _ h = cc

pub mark_stands : (m : Mark) (ts : List Token) → Every (λ rest. Stands (kind.Mark m) ts rest) (mark_at m ts)
unfolding mark_at
mark_stands m [] = every_none
mark_stands m (t ∷ ts) =
    every_if (is_mark m t.kind) (Some ts) None
    (λ e. every_some (record { at = t.span; is = ap (λ k. token k t.span ∷ ts) (mark_kind_is m t.kind e) }))
    (λ e. every_none)

-- the mark that is seen ahead stands there
pub ahead_stands : (m : Mark) (ts : List Token) → mark_ahead m ts ≡ true → (rest : List Token) × Stands (kind.Mark m) ts rest
unfolding mark_ahead
ahead_stands m [] h = cc
ahead_stands m (t ∷ ts) h = (ts, record { at = t.span; is = ap (λ k. token k t.span ∷ ts) (mark_kind_is m t.kind h) })

key_kind_is : (m : Key) (k : Kind) → is_key m k ≡ true → k ≡ kind.Key m
key_kind_is m (kind.Key n) h = ap kind.Key (sym (key_from-code n) ∙ ap key_from (eqb-true (key_code n) (key_code m) h) ∙ key_from-code m)
key_kind_is m (kind.Word x) h = cc
key_kind_is m _ h = cc

pub key_stands : (m : Key) (ts : List Token) → Every (λ rest. Stands (kind.Key m) ts rest) (key_at m ts)
unfolding key_at
key_stands m [] = every_none
key_stands m (t ∷ ts) =
    every_if (is_key m t.kind) (Some ts) None
    (λ e. every_some (record { at = t.span; is = ap (λ k. token k t.span ∷ ts) (key_kind_is m t.kind e) }))
    (λ e. every_none)

-- the keyword that is seen ahead stands there
pub key_ahead_stands : (m : Key) (ts : List Token) → key_ahead m ts ≡ true → (rest : List Token) × Stands (kind.Key m) ts rest
unfolding key_ahead
key_ahead_stands m [] h = cc
key_ahead_stands m (t ∷ ts) h = (ts, record { at = t.span; is = ap (λ k. token k t.span ∷ ts) (key_kind_is m t.kind h) })

word_kind_stands : (k : Kind) (s : Span) (ts : List Token) → Every (λ x. Stands (kind.Word x.0) (token k s ∷ ts) x.1) (word_kind k ts)
word_kind_stands (kind.Word x) s ts = every_some (record { at = s; is = refl })
word_kind_stands _ s ts = every_none

pub word_stands : (ts : List Token) → Every (λ x. Stands (kind.Word x.0) ts x.1) (word_at ts)
unfolding word_at
word_stands [] = every_none
word_stands (t ∷ ts) = word_kind_stands t.kind t.span ts

number_kind_stands : (k : Kind) (s : Span) (ts : List Token) → Every (λ x. Stands (kind.Number x.0) (token k s ∷ ts) x.1) (number_kind k ts)
number_kind_stands (kind.Number n) s ts = every_some (record { at = s; is = refl })
number_kind_stands _ s ts = every_none

pub number_stands : (ts : List Token) → Every (λ x. Stands (kind.Number x.0) ts x.1) (number_at ts)
unfolding number_at
number_stands [] = every_none
number_stands (t ∷ ts) = number_kind_stands t.kind t.span ts

text_kind_stands : (k : Kind) (s : Span) (ts : List Token) → Every (λ x. Stands (kind.Text x.0) (token k s ∷ ts) x.1) (text_kind k ts)
text_kind_stands (kind.Text x) s ts = every_some (record { at = s; is = refl })
text_kind_stands _ s ts = every_none

pub text_stands : (ts : List Token) → Every (λ x. Stands (kind.Text x.0) ts x.1) (text_at ts)
unfolding text_at
text_stands [] = every_none
text_stands (t ∷ ts) = text_kind_stands t.kind t.span ts

-- what is there is found

pub mark_here : (m : Mark) (s : Span) (ts : List Token) → mark_at m (token (kind.Mark m) s ∷ ts) ≡ Some ts
unfolding mark_at
mark_here m s ts = rw (eq-eqb (mark_code m) (mark_code m) refl) refl

pub mark_there : (m : Mark) (s : Span) (ts : List Token) → mark_ahead m (token (kind.Mark m) s ∷ ts) ≡ true
unfolding mark_ahead
mark_there m s ts = eq-eqb (mark_code m) (mark_code m) refl

pub key_here : (m : Key) (s : Span) (ts : List Token) → key_at m (token (kind.Key m) s ∷ ts) ≡ Some ts
unfolding key_at
key_here m s ts = rw (eq-eqb (key_code m) (key_code m) refl) refl

pub key_there : (m : Key) (s : Span) (ts : List Token) → key_ahead m (token (kind.Key m) s ∷ ts) ≡ true
unfolding key_ahead
key_there m s ts = eq-eqb (key_code m) (key_code m) refl

pub word_here : (x : List ℕ) (s : Span) (ts : List Token) → word_at (token (kind.Word x) s ∷ ts) ≡ Some (pair x ts)
unfolding word_at
word_here x s ts = refl

pub number_here : (n : ℕ) (s : Span) (ts : List Token) → number_at (token (kind.Number n) s ∷ ts) ≡ Some (pair n ts)
unfolding number_at
number_here n s ts = refl

pub text_here : (x : List ℕ) (s : Span) (ts : List Token) → text_at (token (kind.Text x) s ∷ ts) ≡ Some (pair x ts)
unfolding text_at
text_here x s ts = refl

-- One more behind those that were seen

pub each_push : {A : Type 0} (P : A → Phrase) (xs : List A) (a : A) (fs gs : List Token) → Each P xs fs → P a gs → Each P (xs ++ a ∷ []) (fs ++ gs)
each_push P [] a fs gs h p = (gs, [], ap (λ l. l ++ gs) h ∙ sym (append-nil gs), p, refl)
each_push P (x ∷ xs) a fs gs (us, vs, is, q, more) p =
    (us, vs ++ gs, ap (λ l. l ++ gs) is ∙ append_assoc us vs gs, q, each_push P xs a vs gs more p)

pub behind_push : {A : Type 0} (S : Phrase) (P : A → Phrase) (xs : List A) (a : A) (fs gs : List Token) → Behind S P xs fs → (S ▸ P a) gs → Behind S P (xs ++ a ∷ []) (fs ++ gs)
behind_push S P [] a fs gs h (us, vs, is, s, p) = (us, vs, ap (λ l. l ++ gs) h ∙ is, s, (vs, [], sym (append-nil vs), p, refl))
behind_push S P (x ∷ xs) a fs gs (us, vs, is, s, (ws, zs, is', q, more)) p =
    (us, vs ++ gs, ap (λ l. l ++ gs) is ∙ append_assoc us vs gs, s, (ws, zs ++ gs, ap (λ l. l ++ gs) is' ∙ append_assoc ws zs gs, q, behind_push S P xs a zs gs more p))

-- where there is one already
pub between_push : {A : Type 0} (S : Phrase) (P : A → Phrase) (x : A) (xs : List A) (a : A) (fs gs : List Token) → Between S P (x ∷ xs) fs → (S ▸ P a) gs → Between S P (x ∷ (xs ++ a ∷ [])) (fs ++ gs)
between_push S P x xs a fs gs (us, vs, is, p, more) q = (us, vs ++ gs, ap (λ l. l ++ gs) is ∙ append_assoc us vs gs, p, behind_push S P xs a vs gs more q)

pub seen_each_push : {A : Type 0} (P : A → Phrase) (xs : List A) (a : A) {ts mid rest : List Token} → Seen (Each P xs) ts mid → Seen (P a) mid rest → Seen (Each P (xs ++ a ∷ [])) ts rest
seen_each_push P xs a {rest = rest} f g = record {
  front = f.front ++ g.front;
  split = f.split ∙ ap (λ l. f.front ++ l) g.split ∙ sym (append_assoc f.front g.front rest);
  spelt = each_push P xs a f.front g.front f.spelt g.spelt;
}

pub seen_between_push : {A : Type 0} (S : Phrase) (P : A → Phrase) (x : A) (xs : List A) (a : A) {ts mid rest : List Token} → Seen (Between S P (x ∷ xs)) ts mid → Seen (S ▸ P a) mid rest → Seen (Between S P (x ∷ (xs ++ a ∷ []))) ts rest
seen_between_push S P x xs a {rest = rest} f g = record {
  front = f.front ++ g.front;
  split = f.split ∙ ap (λ l. f.front ++ l) g.split ∙ sym (append_assoc f.front g.front rest);
  spelt = between_push S P x xs a f.front g.front f.spelt g.spelt;
}

pub seen_between_more : {A : Type 0} (S : Phrase) (P : A → Phrase) (xs : List A) (a : A) {ts mid rest : List Token} → are_some xs ≡ true → Seen (Between S P xs) ts mid → Seen (S ▸ P a) mid rest → Seen (Between S P (xs ++ a ∷ [])) ts rest
seen_between_more S P [] a h f g = cc
seen_between_more S P (x ∷ xs) a h f g = seen_between_push S P x xs a f g

pub seen_between_one : {A : Type 0} (S : Phrase) (P : A → Phrase) (a : A) {ts rest : List Token} → Seen (P a) ts rest → Seen (Between S P (a ∷ [])) ts rest
seen_between_one S P a f = record { front = f.front; split = f.split; spelt = (f.front, [], sym (append-nil f.front), f.spelt, refl) }

pub seen_each_one : {A : Type 0} (P : A → Phrase) (a : A) {ts rest : List Token} → Seen (P a) ts rest → Seen (Each P (a ∷ [])) ts rest
seen_each_one P a f = record { front = f.front; split = f.split; spelt = (f.front, [], sym (append-nil f.front), f.spelt, refl) }
