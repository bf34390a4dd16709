-- What the readers of forms say of the tokens that they read: their kinds, and how many they are.
use Rattle.std.proofs.Common.{◌≡◌, ℕ, ◌+◌, ◌-◌, ◌<◌, ◌≤◌, Bool, true, false, List, [], ◌∷◌, ◌++◌, length, take, Option, Some, None, codes, refl, sym, ap, subst, ◌∙◌, arith, append_assoc, length-append}
use Rattle.std.specs.Prelude.{not, ◌||◌}
use Rattle.std.specs.List.{list_all}
use Rattle.std.proofs.lemmas.List.{take_at}
use Rattle.std.proofs.lemmas.List.Folds.{list_all-append}
use Rattle.sk_base.specs.declared.span.Span.{Span}
use Rattle.sk_tree.specs.declared.token.Token.{Token}
use Rattle.sk_tree.specs.declared.token.Kind.{Kind}
use Rattle.sk_tree.specs.declared.token.Kind.TheVariants as kind
use Rattle.sk_tree.specs.declared.token.Mark.{Mark}
use Rattle.sk_tree.specs.declared.token.Mark.TheVariants as mark
use Rattle.sk_tree.specs.declared.token.Key.{Key}
use Rattle.sk_tree.specs.declared.token.Key.TheVariants as key
use Rattle.sk_types_laws.proofs.Ats.{both_true, both}
use Rattle.sk_parser_laws.specs.Readers.{is_mark, is_key, mark_ahead, mark_at, taken, repeated}
use Rattle.sk_parser_laws.proofs.Loops.{pair, Every, every_none, every_some, every_bind, every_if, every_more, every_repeated}
use Rattle.sk_adt.specs.declared.form.FieldForm.{FieldForm}
use Rattle.sk_adt.specs.declared.form.VariantForm.{VariantForm}
use Rattle.sk_adt.specs.declared.form.TypeForm.{TypeForm}
use Rattle.sk_adt.specs.declared.form.CaseHead.{CaseHead}
use Rattle.sk_adt.specs.declared.form.SwitchHead.{SwitchHead}
use Rattle.sk_adt.specs.Forms.{sign_at, keyword_at, word_kind, name_at, at_close, is_base, is_length, behind_one, behind_length, behind_any_length, behind_type, field_at, next_field, variant_at, next_variant, variants_at, type_at, depth_after, or_here, close_at, case_at, head_at, selected_at}
use Rattle.sk_adt.specs.Branches.{made_name}
use Rattle.sk_adt_laws.specs.Plain.{is_plain}

abbrev pub passes : (Kind → Bool) → List Token → Bool
passes test ts = list_all (λ (t : Token). test t.kind) ts

pub passes_append : (test : Kind → Bool) (xs ys : List Token) → passes test xs ≡ true → passes test ys ≡ true → passes test (xs ++ ys) ≡ true
passes_append test xs ys h k = list_all-append (λ (t : Token). test t.kind) xs ys ∙ both _ _ h k

pub passes_parts : (test : Kind → Bool) (xs ys : List Token) → passes test (xs ++ ys) ≡ true → (passes test xs ≡ true) × (passes test ys ≡ true)
passes_parts test xs ys h = both_true _ _ (sym (list_all-append (λ (t : Token). test t.kind) xs ys) ∙ h)

-- The kinds of tokens that are made pass the test.
pub record Makes (test : Kind → Bool) : Type 0 where
  pub sign : (m : Mark) → test (kind.Mark m) ≡ true
  pub number : (n : ℕ) → test (kind.Number n) ≡ true
  pub keyword : (k : Key) → is_plain (kind.Key k) ≡ true → test (kind.Key k) ≡ true
  pub tag : test (kind.Word (codes "tag")) ≡ true
  pub field : (i j : ℕ) → test (kind.Word (made_name i j)) ≡ true

-- Each of a list of parts takes so many of these tokens: they are a before the first, and b behind the last.
abbrev pub Chain : {A : Type 0} → (A → ℕ → ℕ → Type 0) → List A → ℕ → ℕ → Type 0
Chain Fits [] a b = a ≡ b
Chain Fits (x ∷ xs) a b = (m : ℕ) × Fits x a m × Chain Fits xs m b

pub chain_push : {A : Type 0} (Fits : A → ℕ → ℕ → Type 0) (xs : List A) (x : A) (a m b : ℕ) → Chain Fits xs a m → Fits x m b → Chain Fits (xs ++ x ∷ []) a b
chain_push Fits [] x a m b h f = (b, subst (λ n. Fits x n b) (sym h) f, refl)
chain_push Fits (y ∷ ys) x a m b h f = (h.0, h.1, chain_push Fits ys x h.0 m b h.2 f)

module _ (test : Kind → Bool) where
  abbrev pub WordPasses : List ℕ → Type 0
  WordPasses x = test (kind.Word x) ≡ true

  -- the tokens of a text of which the plain ones pass the test
  abbrev pub Old : List Token → Type 0
  Old ts = passes (λ k. not (is_plain k) || test k) ts ≡ true

  implied : (a b : Bool) → a ≡ true → (not a || b) ≡ true → b ≡ true
  implied true b e h = h
  implied false b e h = cc

  pub old_here : (t : Token) (ts : List Token) → Old (t ∷ ts) → is_plain t.kind ≡ true → test t.kind ≡ true
  old_here t ts h p = implied (is_plain t.kind) (test t.kind) p (both_true _ _ h).0

  pub old_rest : (t : Token) (ts : List Token) → Old (t ∷ ts) → Old ts
  old_rest t ts h = (both_true (not (is_plain t.kind) || test t.kind) _ h).1

  pub record Rest (ts rest : List Token) : Type 0 where
    pub less : length rest < length ts
    pub old : Old rest

  rest_of : (t : Token) (ts : List Token) → Old (t ∷ ts) → Rest (t ∷ ts) ts
  rest_of t ts h = record { less = omega arith; old = old_rest t ts h }

  pub sign_rest : (m : Mark) (ts : List Token) → Old ts → Every (λ r. Rest ts r.1) (sign_at m ts)
  unfolding sign_at
  sign_rest m [] h = every_none
  sign_rest m (t ∷ ts) h = every_if (is_mark m t.kind) (Some (pair t.span ts)) None (λ e. every_some (rest_of t ts h)) (λ e. every_none)

  pub keyword_rest : (k : Key) (ts : List Token) → Old ts → Every (λ r. Rest ts r.1) (keyword_at k ts)
  unfolding keyword_at
  keyword_rest k [] h = every_none
  keyword_rest k (t ∷ ts) h = every_if (is_key k t.kind) (Some (pair t.span ts)) None (λ e. every_some (rest_of t ts h)) (λ e. every_none)

  pub mark_rest : (m : Mark) (ts : List Token) → Old ts → Every (λ r. Rest ts r) (mark_at m ts)
  unfolding mark_at
  mark_rest m [] h = every_none
  mark_rest m (t ∷ ts) h = every_if (is_mark m t.kind) (Some ts) None (λ e. every_some (rest_of t ts h)) (λ e. every_none)

  word_rest : (k : Kind) (s : Span) (ts : List Token) → (is_plain k ≡ true → test k ≡ true) → Every (λ r. (r.1 ≡ ts) × WordPasses r.0.name) (word_kind k s ts)
  word_rest (kind.Word x) s ts h = every_some (refl, h refl)
  word_rest (kind.Number n) s ts h = every_none
  word_rest (kind.Text x) s ts h = every_none
  word_rest (kind.Key k) s ts h = every_none
  word_rest (kind.Mark m) s ts h = every_none

  pub name_rest : (ts : List Token) → Old ts → Every (λ r. Rest ts r.1 × WordPasses r.0.name) (name_at ts)
  unfolding name_at
  name_rest [] h = every_none
  name_rest (t ∷ ts) h = every_more (word_rest t.kind t.span ts (old_here t ts h)) (λ r w. (subst (Rest (t ∷ ts)) (sym w.0) (rest_of t ts h), w.1))

  -- Types of fields

  pub record Cut (ts rest : List Token) : Type 0 where
    pub front : List Token
    pub split : ts ≡ front ++ rest
    pub all : passes test front ≡ true
    pub old : Old rest

  pub cut_then : {ts us vs : List Token} → Cut ts us → Cut us vs → Cut ts vs
  cut_then {vs = vs} f g = record {
    front = f.front ++ g.front;
    split = f.split ∙ ap (λ l. f.front ++ l) g.split ∙ sym (append_assoc f.front g.front vs);
    all = passes_append test f.front g.front f.all g.all;
    old = g.old;
  }

  cut_here : (t : Token) (ts : List Token) → Old (t ∷ ts) → is_plain t.kind ≡ true → Cut (t ∷ ts) ts
  cut_here t ts h p = record { front = t ∷ []; split = refl; all = both _ _ (old_here t ts h p) refl; old = old_rest t ts h }

  one_cut : (fits : Kind → Bool) → ((k : Kind) → fits k ≡ true → is_plain k ≡ true) → (ts : List Token) → Old ts → Every (Cut ts) (behind_one fits ts)
  unfolding behind_one
  one_cut fits p [] h = every_none
  one_cut fits p (t ∷ ts) h = every_if (fits t.kind) (Some ts) None (λ e. every_some (cut_here t ts h (p t.kind e))) (λ e. every_none)

  plain_mark : (m : Mark) (k : Kind) → is_mark m k ≡ true → is_plain k ≡ true
  plain_mark m (kind.Mark n) h = refl
  plain_mark m (kind.Word x) h = refl
  plain_mark m (kind.Number n) h = refl
  plain_mark m (kind.Text x) h = refl
  plain_mark m (kind.Key k) h = cc

  mark_cut : (m : Mark) (ts : List Token) → Old ts → Every (Cut ts) (mark_at m ts)
  unfolding mark_at
  mark_cut m [] h = every_none
  mark_cut m (t ∷ ts) h = every_if (is_mark m t.kind) (Some ts) None (λ e. every_some (cut_here t ts h (plain_mark m t.kind e))) (λ e. every_none)

  plain_base : (k : Kind) → is_base k ≡ true → is_plain k ≡ true
  plain_base (kind.Key key.Adt) h = cc
  plain_base (kind.Key key.Switch) h = cc
  plain_base (kind.Key key.Case) h = cc
  plain_base _ h = refl

  plain_length : (k : Kind) → is_length k ≡ true → is_plain k ≡ true
  plain_length (kind.Key k) h = cc
  plain_length (kind.Mark n) h = refl
  plain_length (kind.Word x) h = refl
  plain_length (kind.Number n) h = refl
  plain_length (kind.Text x) h = refl

  length_cut : (ts : List Token) → Old ts → Every (Cut ts) (behind_length ts)
  unfolding behind_length
  length_cut ts h =
      every_bind (mark_at mark.OpenBracket ts) _ (mark_cut mark.OpenBracket ts h)
      (λ inner a. every_bind (behind_one is_length inner) _ (one_cut is_length plain_length inner a.old)
      (λ after b. every_more (mark_cut mark.CloseBracket after b.old) (λ r c. cut_then a (cut_then b c))))

  any_length_cut : (ts : List Token) → Old ts → Every (Cut ts) (behind_any_length ts)
  unfolding behind_any_length
  any_length_cut ts h =
      every_if (mark_ahead mark.OpenBracket ts) (behind_length ts) (Some ts)
      (λ e. length_cut ts h)
      (λ e. every_some (record { front = []; split = refl; all = refl; old = h }))

  type_cut : (ts : List Token) → Old ts → Every (Cut ts) (behind_type ts)
  unfolding behind_type
  type_cut ts h =
      every_bind (behind_one is_base ts) _ (one_cut is_base plain_base ts h)
      (λ base a. every_bind (behind_any_length base) _ (any_length_cut base a.old)
      (λ first b. every_more (any_length_cut first b.old) (λ r c. cut_then a (cut_then b c))))

  taken_front : (front rest : List Token) → taken (front ++ rest) rest ≡ front
  unfolding taken
  taken_front front rest =
      let n : length (front ++ rest) - length rest ≡ length front = omega (arith, length-append front rest) in
      ap (λ k. take k (front ++ rest)) n ∙ take_at front rest (length front) refl

  cut_taken : {ts rest : List Token} → Cut ts rest → (passes test (taken ts rest) ≡ true) × (length (taken ts rest) + length rest ≡ length ts)
  cut_taken {rest = rest} c =
      let is : taken _ rest ≡ c.front = ap (λ l. taken l rest) c.split ∙ taken_front c.front rest in
      (ap (passes test) is ∙ c.all, omega (arith, ap length is, ap length c.split, length-append c.front rest))

  abbrev pub FieldFits : FieldForm → ℕ → ℕ → Type 0
  FieldFits f a b = (passes test f.ty ≡ true) × (length f.ty + 2 + b ≤ a)

  field_fits : (ts : List Token) → Old ts → Every (λ r. FieldFits r.0 (length ts) (length r.1) × Old r.1) (field_at ts)
  unfolding field_at
  field_fits ts h =
      every_bind (behind_type ts) _ (type_cut ts h)
      (λ behind a. every_bind (name_at behind) _ (name_rest behind a.old)
      (λ word b. every_bind (sign_at mark.Semicolon word.1) _ (sign_rest mark.Semicolon word.1 (b.0).old)
      (λ end c. let t = cut_taken a in every_some ((t.0, omega (arith, t.1, (b.0).less, c.less)), c.old))))

  abbrev pub FieldsFit : List FieldForm → ℕ → ℕ → Type 0
  FieldsFit = Chain FieldFits

  next_field_fits : (a : ℕ) (fields : List FieldForm) (ts : List Token) → FieldsFit fields a (length ts) × Old ts → Every (λ r. FieldsFit r.0 a (length r.1) × Old r.1) (next_field fields ts)
  unfolding next_field
  next_field_fits a fields ts h = every_bind (field_at ts) _ (field_fits ts h.1) (λ f g. every_some (chain_push FieldFits fields f.0 a (length ts) (length f.1) h.0 g.0, g.1))

  abbrev pub VariantFits : VariantForm → ℕ → ℕ → Type 0
  VariantFits v a b = (m n : ℕ) × (m + 2 ≤ a) × FieldsFit v.fields m n × (b + 1 ≤ n)

  variant_fits : (ts : List Token) → Old ts → Every (λ r. VariantFits r.0 (length ts) (length r.1) × Old r.1) (variant_at ts)
  unfolding variant_at
  variant_fits ts h =
      every_bind (name_at ts) _ (name_rest ts h)
      (λ word a. every_bind (mark_at mark.OpenBrace word.1) _ (mark_rest mark.OpenBrace word.1 (a.0).old)
      (λ opening b. every_bind (repeated at_close next_field [] opening) _
      (every_repeated at_close next_field (λ s rest. FieldsFit s (length opening) (length rest) × Old rest) (λ s rest i e. next_field_fits (length opening) s rest i) [] opening (refl, b.old))
      (λ fields c. every_bind (mark_at mark.CloseBrace fields.1) _ (mark_rest mark.CloseBrace fields.1 (c.0).1)
      (λ rest d. every_some ((length opening, length fields.1, omega (arith, (a.0).less, b.less), (c.0).0, omega (arith, d.less)), d.old)))))

  abbrev pub VariantsFit : List VariantForm → ℕ → ℕ → Type 0
  VariantsFit = Chain VariantFits

  next_variant_fits : (a : ℕ) (variants : List VariantForm) (ts : List Token) → VariantsFit variants a (length ts) × Old ts → Every (λ r. VariantsFit r.0 a (length r.1) × Old r.1) (next_variant variants ts)
  unfolding next_variant
  next_variant_fits a variants ts h = every_bind (variant_at ts) _ (variant_fits ts h.1) (λ v g. every_some (chain_push VariantFits variants v.0 a (length ts) (length v.1) h.0 g.0, g.1))

  variants_fit : (ts : List Token) → Old ts → Every (λ r. VariantsFit r.0 (length ts) (length r.1) × Old r.1) (variants_at ts)
  unfolding variants_at
  variants_fit ts h =
      every_bind (next_variant [] ts) _ (next_variant_fits (length ts) [] ts (refl, h))
      (λ first a. every_more (every_repeated at_close next_variant (λ s rest. VariantsFit s (length ts) (length rest) × Old rest) (λ s rest i e. next_variant_fits (length ts) s rest i) first.0 first.1 a) (λ r c. c.0))

  pub record TypeFits (t : TypeForm) (a b : ℕ) : Type 0 where
    pub named : WordPasses t.word.name
    pub from : ℕ
    pub upto : ℕ
    pub front : from + 3 ≤ a
    pub variants : VariantsFit t.variants from upto
    pub back : b + 1 ≤ upto

  pub type_fits : (ts : List Token) → Old ts → Every (λ r. TypeFits r.0 (length ts) (length r.1) × Old r.1) (type_at ts)
  unfolding type_at
  type_fits ts h =
      every_bind (keyword_at key.Adt ts) _ (keyword_rest key.Adt ts h)
      (λ at a. every_bind (name_at at.1) _ (name_rest at.1 a.old)
      (λ word b. every_bind (sign_at mark.OpenBrace word.1) _ (sign_rest mark.OpenBrace word.1 (b.0).old)
      (λ opening c. every_bind (variants_at opening.1) _ (variants_fit opening.1 c.old)
      (λ variants d. every_bind (sign_at mark.CloseBrace variants.1) _ (sign_rest mark.CloseBrace variants.1 d.1)
      (λ close e. every_some (record { named = b.1; from = length opening.1; upto = length variants.1; front = omega (arith, a.less, (b.0).less, c.less); variants = d.0; back = omega (arith, e.less) }, e.old))))))

  -- Cases

  close_split : (n : ℕ) (ts : List Token) → Every (λ r. (front : List Token) × (ts ≡ front ++ r)) (close_at n ts)
  unfolding close_at
  close_split n [] = every_none
  close_split n (t ∷ ts) = go (λ m. close_split m ts) (depth_after n t.kind)
    where
      go : ((m : ℕ) → Every (λ r. (front : List Token) × (ts ≡ front ++ r)) (close_at m ts)) → (o : Option ℕ) → Every (λ r. (front : List Token) × (t ∷ ts ≡ front ++ r)) (or_here (t ∷ ts) (λ m. close_at m ts) o)
      go more None = every_some ([], refl)
      go more (Some m) = every_more (more m) (λ r c. (t ∷ c.0, ap (λ l. t ∷ l) c.1))

  pub record CaseRest (ts : List Token) (head : CaseHead) (block rest : List Token) : Type 0 where
    pub less : length block + 5 + length rest ≤ length ts
    pub block_old : Old block
    pub old : Old rest

  pub case_rest : (ts : List Token) → Old ts → Every (λ c. CaseRest ts c.0 c.1.0 c.1.1) (case_at ts)
  unfolding case_at
  case_rest ts h =
      every_bind (keyword_at key.Case ts) _ (keyword_rest key.Case ts h)
      (λ at a. every_bind (name_at at.1) _ (name_rest at.1 a.old)
      (λ word b. every_bind (mark_at mark.Colon word.1) _ (mark_rest mark.Colon word.1 (b.0).old)
      (λ colon c. every_bind (sign_at mark.OpenBrace colon) _ (sign_rest mark.OpenBrace colon c.old)
      (λ opening d. every_bind (close_at 0 opening.1) _ (close_split 0 opening.1)
      (λ block e.
      let is : taken opening.1 block ≡ e.0 = ap (λ l. taken l block) e.1 ∙ taken_front e.0 block in
      let o = passes_parts (λ k. not (is_plain k) || test k) e.0 block (ap (passes (λ k. not (is_plain k) || test k)) (sym e.1) ∙ d.old) in
      every_bind (sign_at mark.CloseBrace block) _ (sign_rest mark.CloseBrace block o.1)
      (λ close f. every_some (record {
        less = omega (arith, a.less, (b.0).less, c.less, d.less, f.less, ap length is, ap length e.1, length-append e.0 block);
        block_old = ap (passes (λ k. not (is_plain k) || test k)) is ∙ o.0;
        old = f.old;
      })))))))

  pub record HeadRest (ts : List Token) (head : SwitchHead) (rest : List Token) : Type 0 where
    pub less : length rest + 4 ≤ length ts
    pub named : WordPasses head.on.name
    pub old : Old rest

  pub head_rest : (ts : List Token) → Old ts → Every (λ r. HeadRest ts r.0 r.1) (head_at ts)
  unfolding head_at
  head_rest ts h =
      every_bind (keyword_at key.Switch ts) _ (keyword_rest key.Switch ts h)
      (λ at a. every_bind (sign_at mark.OpenParen at.1) _ (sign_rest mark.OpenParen at.1 a.old)
      (λ opening b. every_bind (name_at opening.1) _ (name_rest opening.1 b.old)
      (λ on c. every_bind (sign_at mark.CloseParen on.1) _ (sign_rest mark.CloseParen on.1 (c.0).old)
      (λ close d. every_some (record { less = omega (arith, a.less, b.less, (c.0).less, d.less); named = c.1; old = d.old })))))

  pub selected_rest : (ts : List Token) → Old ts → Every (λ r. (length r.1.1 + 2 ≤ length ts) × WordPasses r.1.0.name × Old r.1.1) (selected_at ts)
  unfolding selected_at
  selected_rest ts h =
      every_bind (sign_at mark.Dot ts) _ (sign_rest mark.Dot ts h)
      (λ dot a. every_bind (name_at dot.1) _ (name_rest dot.1 a.old)
      (λ field b. every_some (omega (arith, a.less, (b.0).less), b.1, (b.0).old)))
