-- What an expression is spelt by is read as that expression.
use Rattle.std.proofs.Common.{◌≡◌, ℕ, zero, suc, max, ◌-◌, ◌<◌, ◌≤◌, Bool, true, false, not, ◌&&◌, ◌||◌, leb, List, [], ◌∷◌, ◌++◌, map, map-id, Option, Some, None, refl, sym, ap, ◌∙◌, subst, arith, append-nil, append_assoc, if◌then◌else◌}
use Rattle.std.proofs.lemmas.Bool.{leb-true, le-leb, lt-leb}
use Rattle.sk_base.specs.declared.span.Span.{Span}
use Rattle.sk_tree.specs.declared.token.Token.{Token}
use Rattle.sk_tree.specs.declared.token.Kind.{Kind}
use Rattle.sk_tree.specs.declared.token.Kind.TheVariants as kind
use Rattle.sk_tree.specs.declared.token.Mark.{Mark}
use Rattle.sk_tree.specs.declared.token.Mark.TheVariants as mark
use Rattle.sk_tree.specs.declared.token.Key.TheVariants as key
use Rattle.sk_tree.specs.declared.pattern.Pattern.{Pattern}
use Rattle.sk_tree.specs.declared.expr.Expr.{Expr}
use Rattle.sk_tree.specs.declared.expr.EForm.{EForm}
use Rattle.sk_tree.specs.declared.expr.EForm.TheVariants as eform
use Rattle.sk_tree.specs.declared.expr.NewField.{NewField}
use Rattle.sk_tree.specs.declared.expr.EForm.TheOpen as E
use Rattle.sk_tree.specs.declared.expr.EForm.TheViews.{roll-EForm}
use Rattle.sk_tree.specs.Phrase.{Phrase, Sign, One, Keyword, ◌▸◌, Each, Between, span_of}
use Rattle.sk_tree.specs.Spelt.{Saying, AsChoice, SpeltPart, is_unary}
use Rattle.sk_tree.specs.Depth.{deepest, eform_depth, expr_depth, pattern_depth}
use Rattle.sk_tree.specs.Placed.{Place, level_of, binds, all_placed, are_yes, eform_place, place_of}
use Rattle.sk_tree.proofs.Says.{each_map}
use Rattle.sk_tree.proofs.Layers.{ExprBy, FieldBy, LayerBy, ExprLayer, expr_parts, expr_law, field_by}
use Rattle.sk_parser_laws.specs.declared.pieces.Deep.{Deep}
use Rattle.sk_parser_laws.specs.declared.pieces.Row.{Row}
use Rattle.sk_parser_laws.specs.declared.pieces.Fields.{Fields}
use Rattle.sk_parser_laws.specs.Readers.{◌>>=◌, is_mark, mark_ahead, mark_at, word_at, number_at, repeated, deeper, span_between}
use Rattle.sk_parser_laws.specs.PatternReader.{ends_choice, ends_sequence, pattern_at}
use Rattle.sk_parser_laws.specs.ExprReader.{made, ByLevel, one_expr, push_expr, ends_row, next_expr, exprs_at, args_at, push_field, field_at, next_field, no_fields, some_fields_at, fields_at, wide_hole_at, hole_at, paren_at, call_at, named_at, new_at, braces_at, Trees, offer_at, primary_kind, primary_at, ends_base, member_at, slice_at, element_at, bracket_at, behind_base, ends_chain_kind, ends_chain, operator_at, sign_kind, sign_at, behind_operand, choice_at, behind_cond, base_at, signed_at, by_sign, operand_at, level_at, expr_at}
use Rattle.sk_parser_laws.proofs.Loops.{pair, Shrinks, repeated_ends, repeated_more}
use Rattle.sk_parser_laws.proofs.Seen.{token, ahead_stands}
use Rattle.sk_parser_laws.proofs.ExprNodes.{Layer, node, depth_layer, depth_is, place_layer, place_is, open_spelt}
use Rattle.sk_parser_laws.proofs.ExprSound.{both_true, both, field_depth, field_place, field_depth_is, field_place_is, GoodTrees, ends_low, ends_less, level_low, expr_sound, next_expr_shrinks, next_field_shrinks, behind_base_shrinks, behind_operand_shrinks}
use Rattle.sk_parser_laws.proofs.PatternComplete.{Follows, pattern_reads}
use Rattle.sk_parser_laws.proofs.Complete.{bind_is, bind_assoc, if_yes, if_no, deeper_is, cut, span_take, first, mark_read, mark_seen, word_read, number_read, AllAre, behind_each, pushed, each_read}

abbrev pub deep : Expr → Deep
deep e = record { expr = e; depth = expr_depth e }

-- What may follow an expression of a level: nothing that would go on with it.
pub record Stops (level : ℕ) (rest : List Token) : Type 0 where
  pub chain : ends_chain level rest ≡ true
  pub base : ends_base rest ≡ true
  pub uncalled : mark_ahead mark.OpenParen rest ≡ false
  pub question : (leb 13 level && mark_ahead mark.Question rest) ≡ false

-- a mark or keyword behind which nothing goes on with an expression
abbrev pub ends_expr : Kind → Bool
ends_expr k = ends_chain_kind 13 k && not (is_mark mark.Dot k || is_mark mark.OpenBracket k) && not (is_mark mark.OpenParen k) && not (is_mark mark.Question k)

mark_base : (m : Mark) (s : Span) (ts : List Token) → not (is_mark mark.Dot (kind.Mark m) || is_mark mark.OpenBracket (kind.Mark m)) ≡ true → ends_base (token (kind.Mark m) s ∷ ts) ≡ true
unfolding ends_base mark_ahead
mark_base m s ts h = h

-- behind a mark that ends expressions
pub stops_here : (m : Mark) (s : Span) (ts : List Token) → ends_expr (kind.Mark m) ≡ true → Stops 13 (token (kind.Mark m) s ∷ ts)
unfolding ends_chain ends_base mark_ahead
stops_here m s ts h =
    let a = both_true (ends_chain_kind 13 (kind.Mark m) && not (is_mark mark.Dot (kind.Mark m) || is_mark mark.OpenBracket (kind.Mark m)) && not (is_mark mark.OpenParen (kind.Mark m))) (not (is_mark mark.Question (kind.Mark m))) h in
    let b = both_true (ends_chain_kind 13 (kind.Mark m) && not (is_mark mark.Dot (kind.Mark m) || is_mark mark.OpenBracket (kind.Mark m))) (not (is_mark mark.OpenParen (kind.Mark m))) a.0 in
    let c = both_true (ends_chain_kind 13 (kind.Mark m)) (not (is_mark mark.Dot (kind.Mark m) || is_mark mark.OpenBracket (kind.Mark m))) b.0 in
    record { chain = c.0; base = c.1; uncalled = is_false (is_mark mark.OpenParen (kind.Mark m)) b.1; question = is_false (is_mark mark.Question (kind.Mark m)) a.1 }
  where
    is_false : (b : Bool) → not b ≡ true → b ≡ false
    is_false true h = cc
    is_false false h = refl

pub stops_at : (m : Mark) (ts : List Token) (s : Span) (ys rest : List Token) → ts ≡ token (kind.Mark m) s ∷ ys → ends_expr (kind.Mark m) ≡ true → Stops 13 (ts ++ rest)
stops_at m ts s ys rest e h = subst (λ l. Stops 13 (l ++ rest)) (sym e) (stops_here m s (ys ++ rest) h)

-- What is made of a form whose tokens are those up to the rest.
made_is : (b : ℕ) (s : Span) (l : Layer) (f : EForm) (depth : ℕ) (start ts rest : List Token) → roll-EForm l ≡ f → start ≡ ts ++ rest → s ≡ span_of ts → depth ≡ eform_depth (depth_layer l) → eform_depth (depth_layer l) ≤ b → made (suc b) start f depth rest ≡ Some (pair (deep (node s (roll-EForm l))) rest)
unfolding made
made_is b s l f depth start ts rest rolls is span d h =
    let e : suc depth ≡ expr_depth (node s (roll-EForm l)) = ap suc d ∙ sym (depth_is s l (roll-EForm l) refl) in
    let sp : span_between start rest ≡ s = ap (λ x. span_between x rest) is ∙ span_take ts rest ∙ sym span in
    bind_is (deeper (suc b) depth) _ (deeper_is (suc b) depth (omega arith)) (λ i. Some (pair (record { expr = node (sp i) (sym rolls i); depth = e i }) rest))

module _ (says : Saying) (trees : Trees) (fair : GoodTrees says trees) (offered : (p : Pattern) (es : List Expr) (ts : List Token) → says p es ts → (trees p ≡ Some es) × (Sign mark.OpenPattern ▸ SpeltPart p AsChoice ▸ Sign mark.ClosePattern) ts) where
  abbrev inner : ℕ → ByLevel
  inner b = expr_at trees b

  abbrev Bases : ℕ → List Token → Deep → List Token → Option (Deep × List Token)
  Bases b start d rest = repeated ends_base (behind_base (inner b) (suc b) start) d rest

  abbrev Chain : ℕ → ℕ → List Token → Deep → List Token → Option (Deep × List Token)
  Chain b level start d rest = repeated (ends_chain level) (behind_operand (inner b) (suc b) start) d rest

  -- what is asked of a part that is read
  pub record Fit (e : Expr) (ts : List Token) (b level : ℕ) : Type 0 where
    pub spelt : ExprBy says e ts
    pub placed : (place_of e).placed ≡ true
    pub within : expr_depth e ≤ b
    pub level_is : (place_of e).level ≤ level

  -- The expression is read: as a base, as what a chain begins with, and whole.
  pub record Complete (e : Expr) : Type 0 where
    pub some : 0 < expr_depth e
    pub low : (place_of e).level ≤ 13
    pub base : (b : ℕ) (ts rest : List Token) → Fit e ts (suc b) 1 → mark_ahead mark.OpenParen rest ≡ false → (primary_at trees (inner b) (suc b) (ts ++ rest) >>= λ p. Bases b (ts ++ rest) p.0 p.1) ≡ Bases b (ts ++ rest) (deep e) rest
    pub chain : (b level : ℕ) (ts rest : List Token) → Fit e ts (suc b) level → (place_of e).level ≤ 12 → ends_chain ((place_of e).level - 1) rest ≡ true → ends_base rest ≡ true → mark_ahead mark.OpenParen rest ≡ false → (operand_at trees (inner b) (suc b) level (ts ++ rest) >>= λ a. Chain b level (ts ++ rest) a.0 a.1) ≡ Chain b level (ts ++ rest) (deep e) rest
    pub whole : (b level : ℕ) (ts rest : List Token) → Fit e ts b level → Stops level rest → expr_at trees b level (ts ++ rest) ≡ Some (pair (deep e) rest)

  bases_shrinks : (b : ℕ) (start : List Token) → Shrinks (behind_base (inner b) (suc b) start)
  bases_shrinks b start = behind_base_shrinks says b (inner b) (expr_sound says trees fair b) start

  chain_shrinks : (b : ℕ) (start : List Token) → Shrinks (behind_operand (inner b) (suc b) start)
  chain_shrinks b start = behind_operand_shrinks says b (inner b) (expr_sound says trees fair b) start

  abbrev BaseReads : Expr → Type 0
  BaseReads e = (b : ℕ) (ts rest : List Token) → Fit e ts (suc b) 1 → mark_ahead mark.OpenParen rest ≡ false → (primary_at trees (inner b) (suc b) (ts ++ rest) >>= λ p. Bases b (ts ++ rest) p.0 p.1) ≡ Bases b (ts ++ rest) (deep e) rest

  abbrev ChainReads : Expr → Type 0
  ChainReads e = (b level : ℕ) (ts rest : List Token) → Fit e ts (suc b) level → (place_of e).level ≤ 12 → ends_chain ((place_of e).level - 1) rest ≡ true → ends_base rest ≡ true → mark_ahead mark.OpenParen rest ≡ false → (operand_at trees (inner b) (suc b) level (ts ++ rest) >>= λ a. Chain b level (ts ++ rest) a.0 a.1) ≡ Chain b level (ts ++ rest) (deep e) rest

  abbrev WholeReads : Expr → Type 0
  WholeReads e = (b level : ℕ) (ts rest : List Token) → Fit e ts b level → Stops level rest → expr_at trees b level (ts ++ rest) ≡ Some (pair (deep e) rest)

  whole_of : (e : Expr) → 0 < expr_depth e → (place_of e).level ≤ 12 → ChainReads e → WholeReads e
  unfolding expr_at level_at behind_cond
  whole_of e some low chain zero level ts rest f s = absurd (omega (arith, f.within))
  whole_of e some low chain (suc b) level ts rest f s =
      bind_assoc (operand_at trees (inner b) (suc b) level (ts ++ rest)) (λ a. Chain b level (ts ++ rest) a.0 a.1) (λ c. behind_cond (inner b) (suc b) level (ts ++ rest) c.0 c.1)
      ∙ ap (λ (o : Option (Deep × List Token)). o >>= λ c. behind_cond (inner b) (suc b) level (ts ++ rest) c.0 c.1)
      (chain b level ts rest f low (ends_less ((place_of e).level - 1) level rest (omega (arith, f.level_is)) s.chain) s.base s.uncalled
      ∙ repeated_ends (ends_chain level) (behind_operand (inner b) (suc b) (ts ++ rest)) (deep e) rest s.chain)
      ∙ if_no (leb 13 level && mark_ahead mark.Question rest) _ (Some (pair (deep e) rest)) s.question refl

  -- no unary operator stands where a base does
  sign_or : {C : Type 0} (b : ℕ) (k : Kind) (start us vs : List Token) → (sign_kind k vs ≡ None → C) → (primary_kind trees (inner b) (suc b) start k us ≡ None → C) → C
  sign_or b (kind.Mark mark.Bang) start us vs f g = g refl
  sign_or b (kind.Mark mark.Tilde) start us vs f g = g refl
  sign_or b (kind.Mark mark.Minus) start us vs f g = g refl
  sign_or b (kind.Mark _) start us vs f g = f refl
  sign_or b _ start us vs f g = f refl

  sign_free : (e : Expr) → BaseReads e → (b : ℕ) (ts rest : List Token) → Fit e ts (suc b) 1 → sign_at (ts ++ rest) ≡ None
  unfolding sign_at primary_at ends_base mark_ahead
  sign_free e base b [] rest f =
      let bad : None ≡ Some (pair (deep e) []) = base b [] [] f refl ∙ repeated_ends ends_base (behind_base (inner b) (suc b) []) (deep e) [] refl in
      absurd (cc)
  sign_free e base b (t ∷ ts) rest f =
      let start = t ∷ (ts ++ []) in
      let reads : (primary_kind trees (inner b) (suc b) start t.kind (ts ++ []) >>= λ p. Bases b start p.0 p.1) ≡ Some (pair (deep e) []) = base b (t ∷ ts) [] f refl ∙ repeated_ends ends_base (behind_base (inner b) (suc b) start) (deep e) [] refl in
      sign_or b t.kind start (ts ++ []) (ts ++ rest) (λ none. none)
      (λ none. let bad : None ≡ Some (pair (deep e) []) = sym (ap (λ (o : Option (Deep × List Token)). o >>= λ p. Bases b start p.0 p.1) none) ∙ reads in absurd (cc))

  chain_of_base : (e : Expr) → (place_of e).level ≤ 1 → BaseReads e → ChainReads e
  unfolding operand_at base_at
  chain_of_base e one base b level ts rest f low edge eb uncalled =
      let fit : Fit e ts (suc b) 1 = record { spelt = f.spelt; placed = f.placed; within = f.within; level_is = one } in
      let reads : base_at trees (inner b) (suc b) (ts ++ rest) ≡ Some (pair (deep e) rest) = base b ts rest fit uncalled ∙ repeated_ends ends_base (behind_base (inner b) (suc b) (ts ++ rest)) (deep e) rest eb in
      bind_is (operand_at trees (inner b) (suc b) level (ts ++ rest)) _ (go (leb 2 level) reads (sign_free e base b ts rest fit)) refl
    where
      go : (c : Bool) → base_at trees (inner b) (suc b) (ts ++ rest) ≡ Some (pair (deep e) rest) → sign_at (ts ++ rest) ≡ None → (if c then by_sign trees (inner b) (suc b) (ts ++ rest) (sign_at (ts ++ rest)) else base_at trees (inner b) (suc b) (ts ++ rest)) ≡ Some (pair (deep e) rest)
      go true reads none = ap (by_sign trees (inner b) (suc b) (ts ++ rest)) none ∙ reads
      go false reads none = reads

  complete_base : (e : Expr) → 0 < expr_depth e → (place_of e).level ≤ 1 → BaseReads e → Complete e
  complete_base e some one base = record { some = some; low = omega arith; base = base; chain = chain_of_base e one base; whole = whole_of e some (omega arith) (chain_of_base e one base) }

  complete_chain : (e : Expr) → 0 < expr_depth e → 1 < (place_of e).level → (place_of e).level ≤ 12 → ChainReads e → Complete e
  complete_chain e some high low chain = record { some = some; low = omega arith; base = λ b ts rest f uncalled. absurd (omega (arith, f.level_is)); chain = chain; whole = whole_of e some low chain }

  complete_whole : (e : Expr) → 0 < expr_depth e → (place_of e).level ≡ 13 → WholeReads e → Complete e
  complete_whole e some high whole = record { some = some; low = omega arith; base = λ b ts rest f uncalled. absurd (omega (arith, f.level_is)); chain = λ b level ts rest f low edge eb uncalled. absurd (omega arith); whole = whole }

  -- What is known of the form of a part.
  record Opened (s : Span) (l : Layer) (ts : List Token) (b : ℕ) : Type 0 where
    spelt : LayerBy says l ts
    span : s ≡ span_of ts
    placed : (eform_place (place_layer l)).placed ≡ true
    within : eform_depth (depth_layer l) ≤ b

  opened : (s : Span) (l : Layer) (ts : List Token) (b level : ℕ) → Fit (node s (roll-EForm l)) ts (suc b) level → Opened s l ts b
  opened s l ts b level f =
      let o = open_spelt says s l (roll-EForm l) ts refl f.spelt in
      record { spelt = o.0; span = o.1; placed = sym (ap (λ (p : Place). p.placed) (place_is s l (roll-EForm l) refl)) ∙ f.placed; within = omega (arith, depth_is s l (roll-EForm l) refl, f.within) }

  node_some : (s : Span) (l : Layer) → 0 < expr_depth (node s (roll-EForm l))
  node_some s l = omega (arith, depth_is s l (roll-EForm l) refl)

  level_of_node : (s : Span) (l : Layer) → (place_of (node s (roll-EForm l))).level ≡ (eform_place (place_layer l)).level
  level_of_node s l = ap (λ (p : Place). p.level) (place_is s l (roll-EForm l) refl)

  PrimaryReads : Span → Layer → Type 0
  PrimaryReads s l = (b : ℕ) (ts rest : List Token) → Opened s l ts b → mark_ahead mark.OpenParen rest ≡ false → primary_at trees (inner b) (suc b) (ts ++ rest) ≡ Some (pair (deep (node s (roll-EForm l))) rest)

  complete_primary : (s : Span) (l : Layer) → (eform_place (place_layer l)).level ≡ 1 → PrimaryReads s l → Complete (node s (roll-EForm l))
  unfolding PrimaryReads
  complete_primary s l one reads =
      complete_base (node s (roll-EForm l)) (node_some s l) (omega (arith, level_of_node s l))
      (λ b ts rest f uncalled. bind_is (primary_at trees (inner b) (suc b) (ts ++ rest)) _ (reads b ts rest (opened s l ts b 1 f) uncalled) refl)

  -- a form of one token
  leaf_reads : (s : Span) (k : Kind) (l : Layer) (f : EForm) → roll-EForm l ≡ f → LayerBy says l ≡ One k → eform_depth (depth_layer l) ≡ 0 → ((b : ℕ) (at : Span) (rest : List Token) → mark_ahead mark.OpenParen rest ≡ false → primary_at trees (inner b) (suc b) (token k at ∷ rest) ≡ made (suc b) (token k at ∷ rest) f 0 rest) → PrimaryReads s l
  unfolding PrimaryReads
  leaf_reads s k l f rolls one depth reads b ts rest o uncalled = go (subst (λ (P : Phrase). P ts) one o.spelt)
    where
      go : One k ts → primary_at trees (inner b) (suc b) (ts ++ rest) ≡ Some (pair (deep (node s (roll-EForm l))) rest)
      go (at, is) =
          ap (λ u. primary_at trees (inner b) (suc b) (u ++ rest)) is ∙ reads b at rest uncalled
          ∙ made_is b s l f 0 (token k at ∷ rest) ts rest rolls (sym (ap (λ u. u ++ rest) is)) o.span (sym depth) (omega (arith, depth))

  -- a part in its place
  part : (e : Expr) (xs : List Token) (b : ℕ) → ExprBy says e xs → (place_of e).placed ≡ true → expr_depth e ≤ b → (place_of e).level ≤ 13 → Fit e xs b 13
  part e xs b h p d k = record { spelt = h; placed = p; within = d; level_is = k }

  paren_reads : (s : Span) (a : Expr) → Complete a → PrimaryReads s (E.Paren a)
  unfolding PrimaryReads primary_at paren_at
  paren_reads s a known b ts rest o uncalled = go o.spelt
    where
      go : (Sign mark.OpenParen ▸ ExprBy says a ▸ Sign mark.CloseParen) ts → primary_at trees (inner b) (suc b) (ts ++ rest) ≡ Some (pair (deep (node s (roll-EForm (E.Paren a)))) rest)
      go (us, ys, is, (at, isu), (xs, zs, is', h, (end, isz))) =
          let front : ts ≡ token (kind.Mark mark.OpenParen) at ∷ ys = is ∙ ap (λ l. l ++ ys) isu in
          let start = token (kind.Mark mark.OpenParen) at ∷ (ys ++ rest) in
          ap (λ u. primary_at trees (inner b) (suc b) (u ++ rest)) front
          ∙ bind_is (expr_at trees b 13 (ys ++ rest)) _ (ap (expr_at trees b 13) (cut _ _ is' rest) ∙ known.whole b 13 xs (zs ++ rest) (part a xs b h o.placed o.within known.low) (stops_at mark.CloseParen zs end [] rest isz refl))
          (bind_is (mark_at mark.CloseParen (zs ++ rest)) _ (mark_read mark.CloseParen zs end [] rest isz)
          (made_is b s (E.Paren a) (eform.Paren a) (expr_depth a) start ts rest (eform.rolls-Paren a) (sym (ap (λ u. u ++ rest) front)) o.span refl o.within))

  member_reads : (s : Span) (a : Expr) (x : List ℕ) → Complete a → BaseReads (node s (roll-EForm (E.Member a x)))
  unfolding behind_base member_at ends_base mark_ahead
  member_reads s a x known b ts rest f uncalled =
      let o = opened s (E.Member a x) ts b 1 f in
      go o o.spelt
    where
      go : Opened s (E.Member a x) ts b → (ExprBy says a ▸ Sign mark.Dot ▸ One (kind.Word x)) ts → (primary_at trees (inner b) (suc b) (ts ++ rest) >>= λ p. Bases b (ts ++ rest) p.0 p.1) ≡ Bases b (ts ++ rest) (deep (node s (roll-EForm (E.Member a x)))) rest
      go o (xs, ys, is, h, (us, zs, is', (at, isu), (end, isz))) =
          let dot : ys ≡ token (kind.Mark mark.Dot) at ∷ zs = is' ∙ ap (λ l. l ++ zs) isu in
          let start = xs ++ (ys ++ rest) in
          let p : ts ++ rest ≡ start = cut _ _ is rest in
          let whole = both_true (place_of a).placed (leb (place_of a).level 1) o.placed in
          let fit : Fit a xs (suc b) 1 = record { spelt = h; placed = whole.0; within = omega (arith, o.within); level_is = leb-true (place_of a).level 1 whole.1 } in
          let turn : behind_base (inner b) (suc b) start (deep a) (ys ++ rest) ≡ Some (pair (deep (node s (roll-EForm (E.Member a x)))) rest) =
          if_yes (mark_ahead mark.Dot (ys ++ rest)) (member_at (suc b) start (deep a) (ys ++ rest)) _ (mark_seen mark.Dot ys at zs rest dot)
          (bind_is (mark_at mark.Dot (ys ++ rest)) _ (mark_read mark.Dot ys at zs rest dot)
          (bind_is (word_at (zs ++ rest)) _ (word_read x zs end [] rest isz)
          (made_is b s (E.Member a x) (eform.Member a x) (expr_depth a) start ts rest (eform.rolls-Member a x) (sym p) o.span refl o.within))) in
          ap (λ u. primary_at trees (inner b) (suc b) u >>= λ q. Bases b u q.0 q.1) p
          ∙ known.base b xs (ys ++ rest) fit (ap (λ l. mark_ahead mark.OpenParen (l ++ rest)) dot)
          ∙ repeated_more ends_base (behind_base (inner b) (suc b) start) (bases_shrinks b start) (deep a) (ys ++ rest) (deep (node s (roll-EForm (E.Member a x)))) rest (ap (λ l. ends_base (l ++ rest)) dot) turn
          ∙ ap (λ u. Bases b u (deep (node s (roll-EForm (E.Member a x)))) rest) (sym p)

  -- `[` behind a base
  open_bracket : (ys : List Token) (at : Span) (zs rest : List Token) → ys ≡ token (kind.Mark mark.OpenBracket) at ∷ zs → (ends_base (ys ++ rest) ≡ false) × (mark_ahead mark.Dot (ys ++ rest) ≡ false) × (mark_ahead mark.OpenParen (ys ++ rest) ≡ false)
  unfolding ends_base mark_ahead
  open_bracket ys at zs rest e = (ap (λ l. ends_base (l ++ rest)) e, ap (λ l. mark_ahead mark.Dot (l ++ rest)) e, ap (λ l. mark_ahead mark.OpenParen (l ++ rest)) e)

  no_colons : (ys : List Token) (at : Span) (rest : List Token) → ys ≡ token (kind.Mark mark.CloseBracket) at ∷ [] → mark_ahead mark.DoubleColon (ys ++ rest) ≡ false
  unfolding mark_ahead
  no_colons ys at rest e = ap (λ l. mark_ahead mark.DoubleColon (l ++ rest)) e

  index_reads : (s : Span) (a i : Expr) → Complete a → Complete i → BaseReads (node s (roll-EForm (E.Index a i)))
  unfolding behind_base bracket_at element_at
  index_reads s a i ka ki b ts rest f uncalled =
      let o = opened s (E.Index a i) ts b 1 f in
      go o o.spelt
    where
      go : Opened s (E.Index a i) ts b → (ExprBy says a ▸ Sign mark.OpenBracket ▸ ExprBy says i ▸ Sign mark.CloseBracket) ts → (primary_at trees (inner b) (suc b) (ts ++ rest) >>= λ p. Bases b (ts ++ rest) p.0 p.1) ≡ Bases b (ts ++ rest) (deep (node s (roll-EForm (E.Index a i)))) rest
      go o (xs, ys, is, h, (us, zs, is', (at, isu), (vs, ws, is'', hi, (end, isw)))) =
          let e = node s (roll-EForm (E.Index a i)) in
          let bracket : ys ≡ token (kind.Mark mark.OpenBracket) at ∷ zs = is' ∙ ap (λ l. l ++ zs) isu in
          let start = xs ++ (ys ++ rest) in
          let p : ts ++ rest ≡ start = cut _ _ is rest in
          let both_placed = both_true (binds 1 (place_of a)) (place_of i).placed o.placed in
          let whole = both_true (place_of a).placed (leb (place_of a).level 1) both_placed.0 in
          let fit : Fit a xs (suc b) 1 = record { spelt = h; placed = whole.0; within = omega (arith, o.within); level_is = leb-true (place_of a).level 1 whole.1 } in
          let facts = open_bracket ys at zs rest bracket in
          let turn : behind_base (inner b) (suc b) start (deep a) (ys ++ rest) ≡ Some (pair (deep e) rest) =
          if_no (mark_ahead mark.Dot (ys ++ rest)) _ (bracket_at (inner b) (suc b) start (deep a) (ys ++ rest)) facts.1
          (bind_is (mark_at mark.OpenBracket (ys ++ rest)) _ (mark_read mark.OpenBracket ys at zs rest bracket)
          (bind_is (expr_at trees b 13 (zs ++ rest)) _ (ap (expr_at trees b 13) (cut _ _ is'' rest) ∙ ki.whole b 13 vs (ws ++ rest) (part i vs b hi both_placed.1 (omega (arith, o.within)) ki.low) (stops_at mark.CloseBracket ws end [] rest isw refl))
          (if_no (mark_ahead mark.DoubleColon (ws ++ rest)) _ _ (no_colons ws end rest isw)
          (bind_is (mark_at mark.CloseBracket (ws ++ rest)) _ (mark_read mark.CloseBracket ws end [] rest isw)
          (made_is b s (E.Index a i) (eform.Index a i) (max (expr_depth a) (expr_depth i)) start ts rest (eform.rolls-Index a i) (sym p) o.span refl o.within))))) in
          ap (λ u. primary_at trees (inner b) (suc b) u >>= λ q. Bases b u q.0 q.1) p
          ∙ ka.base b xs (ys ++ rest) fit facts.2
          ∙ repeated_more ends_base (behind_base (inner b) (suc b) start) (bases_shrinks b start) (deep a) (ys ++ rest) (deep e) rest facts.0 turn
          ∙ ap (λ u. Bases b u (deep e) rest) (sym p)

  slice_reads : (s : Span) (a i n : Expr) → Complete a → Complete i → Complete n → BaseReads (node s (roll-EForm (E.Slice a i n)))
  unfolding behind_base bracket_at slice_at
  slice_reads s a i n ka ki kn b ts rest f uncalled =
      let o = opened s (E.Slice a i n) ts b 1 f in
      go o o.spelt
    where
      go : Opened s (E.Slice a i n) ts b → (ExprBy says a ▸ Sign mark.OpenBracket ▸ ExprBy says i ▸ Sign mark.DoubleColon ▸ ExprBy says n ▸ Sign mark.CloseBracket) ts → (primary_at trees (inner b) (suc b) (ts ++ rest) >>= λ p. Bases b (ts ++ rest) p.0 p.1) ≡ Bases b (ts ++ rest) (deep (node s (roll-EForm (E.Slice a i n)))) rest
      go o (xs, ys, is, h, (us, zs, is', (at, isu), (vs, ws, is'', hi, (cs, ds, is3, (mid, isc), (ns, qs, is4, hn, (end, isq)))))) =
          let e = node s (roll-EForm (E.Slice a i n)) in
          let bracket : ys ≡ token (kind.Mark mark.OpenBracket) at ∷ zs = is' ∙ ap (λ l. l ++ zs) isu in
          let colons : ws ≡ token (kind.Mark mark.DoubleColon) mid ∷ ds = is3 ∙ ap (λ l. l ++ ds) isc in
          let start = xs ++ (ys ++ rest) in
          let p : ts ++ rest ≡ start = cut _ _ is rest in
          let all = both_true (binds 1 (place_of a) && (place_of i).placed) (place_of n).placed o.placed in
          let both_placed = both_true (binds 1 (place_of a)) (place_of i).placed all.0 in
          let whole = both_true (place_of a).placed (leb (place_of a).level 1) both_placed.0 in
          let fit : Fit a xs (suc b) 1 = record { spelt = h; placed = whole.0; within = omega (arith, o.within); level_is = leb-true (place_of a).level 1 whole.1 } in
          let facts = open_bracket ys at zs rest bracket in
          let turn : behind_base (inner b) (suc b) start (deep a) (ys ++ rest) ≡ Some (pair (deep e) rest) =
          if_no (mark_ahead mark.Dot (ys ++ rest)) _ (bracket_at (inner b) (suc b) start (deep a) (ys ++ rest)) facts.1
          (bind_is (mark_at mark.OpenBracket (ys ++ rest)) _ (mark_read mark.OpenBracket ys at zs rest bracket)
          (bind_is (expr_at trees b 13 (zs ++ rest)) _ (ap (expr_at trees b 13) (cut _ _ is'' rest) ∙ ki.whole b 13 vs (ws ++ rest) (part i vs b hi both_placed.1 (omega (arith, o.within)) ki.low) (stops_at mark.DoubleColon ws mid ds rest colons refl))
          (if_yes (mark_ahead mark.DoubleColon (ws ++ rest)) _ _ (mark_seen mark.DoubleColon ws mid ds rest colons)
          (bind_is (mark_at mark.DoubleColon (ws ++ rest)) _ (mark_read mark.DoubleColon ws mid ds rest colons)
          (bind_is (expr_at trees b 13 (ds ++ rest)) _ (ap (expr_at trees b 13) (cut _ _ is4 rest) ∙ kn.whole b 13 ns (qs ++ rest) (part n ns b hn all.1 (omega (arith, o.within)) kn.low) (stops_at mark.CloseBracket qs end [] rest isq refl))
          (bind_is (mark_at mark.CloseBracket (qs ++ rest)) _ (mark_read mark.CloseBracket qs end [] rest isq)
          (made_is b s (E.Slice a i n) (eform.Slice a i n) (max (expr_depth a) (max (expr_depth i) (expr_depth n))) start ts rest (eform.rolls-Slice a i n) (sym p) o.span refl o.within))))))) in
          ap (λ u. primary_at trees (inner b) (suc b) u >>= λ q. Bases b u q.0 q.1) p
          ∙ ka.base b xs (ys ++ rest) fit facts.2
          ∙ repeated_more ends_base (behind_base (inner b) (suc b) start) (bases_shrinks b start) (deep a) (ys ++ rest) (deep e) rest facts.0 turn
          ∙ ap (λ u. Bases b u (deep e) rest) (sym p)

  -- Operators

  sign_read : (op : Mark) (ts : List Token) (at : Span) (ys rest : List Token) → is_unary op ≡ true → ts ≡ token (kind.Mark op) at ∷ ys → sign_at (ts ++ rest) ≡ Some (pair op (ys ++ rest))
  unfolding sign_at
  sign_read op ts at ys rest h e = ap (λ l. sign_at (l ++ rest)) e ∙ if_yes (is_unary op) (Some (pair op (ys ++ rest))) None h refl

  unary_reads : (s : Span) (op : Mark) (a : Expr) → Complete a → ChainReads (node s (roll-EForm (E.Unary op a)))
  unfolding operand_at signed_at
  unary_reads s op a known b level ts rest f low edge eb uncalled =
      let o = opened s (E.Unary op a) ts b level f in
      let two : 2 ≤ level = omega (arith, level_of_node s (E.Unary op a), f.level_is) in
      go o two o.spelt
    where
      go : Opened s (E.Unary op a) ts b → 2 ≤ level → LayerBy says (E.Unary op a) ts → (operand_at trees (inner b) (suc b) level (ts ++ rest) >>= λ a. Chain b level (ts ++ rest) a.0 a.1) ≡ Chain b level (ts ++ rest) (deep (node s (roll-EForm (E.Unary op a)))) rest
      go o two (unary, (us, ys, is, (at, isu), h)) =
          let e = node s (roll-EForm (E.Unary op a)) in
          let front : ts ≡ token (kind.Mark op) at ∷ ys = is ∙ ap (λ l. l ++ ys) isu in
          let whole = both_true (place_of a).placed (leb (place_of a).level 2) o.placed in
          let fit : Fit a ys b 2 = record { spelt = h; placed = whole.0; within = o.within; level_is = leb-true (place_of a).level 2 whole.1 } in
          let stops : Stops 2 rest = record { chain = ends_low 2 rest (omega arith); base = eb; uncalled = uncalled; question = refl } in
          bind_is (operand_at trees (inner b) (suc b) level (ts ++ rest)) _
          (if_yes (leb 2 level) (by_sign trees (inner b) (suc b) (ts ++ rest) (sign_at (ts ++ rest))) _ (le-leb 2 level two)
          (ap (by_sign trees (inner b) (suc b) (ts ++ rest)) (sign_read op ts at ys rest unary front)
          ∙ bind_is (expr_at trees b 2 (ys ++ rest)) _ (known.whole b 2 ys rest fit stops)
          (made_is b s (E.Unary op a) (eform.Unary op a) (expr_depth a) (ts ++ rest) ts rest (eform.rolls-Unary op a) refl o.span refl o.within))) refl

  operator_read : (op : Mark) (ts : List Token) (at : Span) (ys rest : List Token) → 3 ≤ level_of op → ts ≡ token (kind.Mark op) at ∷ ys → operator_at (ts ++ rest) ≡ Some (pair op (ys ++ rest))
  unfolding operator_at
  operator_read op ts at ys rest h e = ap (λ l. operator_at (l ++ rest)) e ∙ if_yes (leb 3 (level_of op)) (Some (pair op (ys ++ rest))) None (le-leb 3 (level_of op) h) refl

  operator_base : (op : Mark) → leb 3 (level_of op) ≡ true → (not (is_mark mark.Dot (kind.Mark op) || is_mark mark.OpenBracket (kind.Mark op)) ≡ true) × (is_mark mark.OpenParen (kind.Mark op) ≡ false)
  operator_base mark.Dot h = cc
  operator_base mark.OpenBracket h = cc
  operator_base mark.OpenParen h = cc
  operator_base _ h = (refl, refl)

  operator_facts : (op : Mark) (j level : ℕ) (ts : List Token) (at : Span) (ys rest : List Token) → 3 ≤ level_of op → ts ≡ token (kind.Mark op) at ∷ ys → j < level_of op → level_of op ≤ level → (ends_chain j (ts ++ rest) ≡ true) × (ends_chain level (ts ++ rest) ≡ false) × (ends_base (ts ++ rest) ≡ true) × (mark_ahead mark.OpenParen (ts ++ rest) ≡ false)
  unfolding ends_chain ends_base mark_ahead
  operator_facts op j level ts at ys rest h e low high =
      let base = operator_base op (le-leb 3 (level_of op) h) in (
        ap (λ l. ends_chain j (l ++ rest)) e ∙ ap (λ c. not (leb 3 (level_of op) && c)) (lt-leb (level_of op) j low) ∙ off (leb 3 (level_of op)),
        ap (λ l. ends_chain level (l ++ rest)) e ∙ ap not (both (le-leb 3 (level_of op) h) (le-leb (level_of op) level high)),
        ap (λ l. ends_base (l ++ rest)) e ∙ base.0,
        ap (λ l. mark_ahead mark.OpenParen (l ++ rest)) e ∙ base.1,
      )
    where
      off : (c : Bool) → not (c && false) ≡ true
      off true = refl
      off false = refl

  binary_reads : (s : Span) (op : Mark) (a c : Expr) → Complete a → Complete c → ChainReads (node s (roll-EForm (E.Binary op a c)))
  unfolding behind_operand
  binary_reads s op a c ka kc b level ts rest f low edge eb uncalled =
      let o = opened s (E.Binary op a c) ts b level f in
      go o (omega (arith, level_of_node s (E.Binary op a c), f.level_is)) o.spelt
    where
      go : Opened s (E.Binary op a c) ts b → level_of op ≤ level → (ExprBy says a ▸ Sign op ▸ ExprBy says c) ts → (operand_at trees (inner b) (suc b) level (ts ++ rest) >>= λ a. Chain b level (ts ++ rest) a.0 a.1) ≡ Chain b level (ts ++ rest) (deep (node s (roll-EForm (E.Binary op a c)))) rest
      go o high (xs, ys, is, h, (us, zs, is', (at, isu), hc)) =
          let e = node s (roll-EForm (E.Binary op a c)) in
          let sign : ys ≡ token (kind.Mark op) at ∷ zs = is' ∙ ap (λ l. l ++ zs) isu in
          let start = xs ++ (ys ++ rest) in
          let p : ts ++ rest ≡ start = cut _ _ is rest in
          let all = both_true (leb 3 (level_of op) && binds (level_of op) (place_of a)) (binds (level_of op - 1) (place_of c)) o.placed in
          let left = both_true (leb 3 (level_of op)) (binds (level_of op) (place_of a)) all.0 in
          let left_is = both_true (place_of a).placed (leb (place_of a).level (level_of op)) left.1 in
          let right_is = both_true (place_of c).placed (leb (place_of c).level (level_of op - 1)) all.1 in
          let three : 3 ≤ level_of op = leb-true 3 (level_of op) left.0 in
          let left_low : (place_of a).level ≤ level_of op = leb-true (place_of a).level (level_of op) left_is.1 in
          let most : level_of op ≤ 12 = level_low op in
          let fit : Fit a xs (suc b) level = record { spelt = h; placed = left_is.0; within = omega (arith, o.within); level_is = omega arith } in
          let facts = operator_facts op ((place_of a).level - 1) level ys at zs rest three sign (omega arith) high in
          let fit_right : Fit c zs b (level_of op - 1) = record { spelt = hc; placed = right_is.0; within = omega (arith, o.within); level_is = leb-true (place_of c).level (level_of op - 1) right_is.1 } in
          let edge_is : ends_chain (level_of op - 1) rest ≡ true = ap (λ n. ends_chain (n - 1) rest) (sym (level_of_node s (E.Binary op a c))) ∙ edge in
          let stops : Stops (level_of op - 1) rest = record { chain = edge_is; base = eb; uncalled = uncalled; question = ap (λ c. c && mark_ahead mark.Question rest) (lt-leb 13 (level_of op - 1) (omega arith)) } in
          let turn : behind_operand (inner b) (suc b) start (deep a) (ys ++ rest) ≡ Some (pair (deep e) rest) =
          bind_is (operator_at (ys ++ rest)) _ (operator_read op ys at zs rest three sign)
          (bind_is (expr_at trees b (level_of op - 1) (zs ++ rest)) _ (kc.whole b (level_of op - 1) zs rest fit_right stops)
          (made_is b s (E.Binary op a c) (eform.Binary op a c) (max (expr_depth a) (expr_depth c)) start ts rest (eform.rolls-Binary op a c) (sym p) o.span refl o.within)) in
          ap (λ u. operand_at trees (inner b) (suc b) level u >>= λ q. Chain b level u q.0 q.1) p
          ∙ ka.chain b level xs (ys ++ rest) fit (omega arith) facts.0 facts.2 facts.3
          ∙ repeated_more (ends_chain level) (behind_operand (inner b) (suc b) start) (chain_shrinks b start) (deep a) (ys ++ rest) (deep e) rest facts.1 turn
          ∙ ap (λ u. Chain b level u (deep e) rest) (sym p)

  -- `? then : other`
  question_facts : (ts : List Token) (at : Span) (ys rest : List Token) (j level : ℕ) → ts ≡ token (kind.Mark mark.Question) at ∷ ys → (ends_chain j (ts ++ rest) ≡ true) × (ends_base (ts ++ rest) ≡ true) × (mark_ahead mark.OpenParen (ts ++ rest) ≡ false)
  unfolding ends_chain ends_base mark_ahead
  question_facts ts at ys rest j level e = (ap (λ l. ends_chain j (l ++ rest)) e, ap (λ l. ends_base (l ++ rest)) e, ap (λ l. mark_ahead mark.OpenParen (l ++ rest)) e)

  cond_reads : (s : Span) (c a d : Expr) → Complete c → Complete a → Complete d → WholeReads (node s (roll-EForm (E.Cond c a d)))
  unfolding expr_at level_at behind_cond choice_at
  cond_reads s c a d kc ka kd zero level ts rest f stops = absurd (omega (arith, node_some s (E.Cond c a d), f.within))
  cond_reads s c a d kc ka kd (suc b) level ts rest f stops =
      let o = opened s (E.Cond c a d) ts b level f in
      go o (omega (arith, level_of_node s (E.Cond c a d), f.level_is)) o.spelt
    where
      go : Opened s (E.Cond c a d) ts b → 13 ≤ level → (ExprBy says c ▸ Sign mark.Question ▸ ExprBy says a ▸ Sign mark.Colon ▸ ExprBy says d) ts → level_at trees (inner b) (suc b) level (ts ++ rest) ≡ Some (pair (deep (node s (roll-EForm (E.Cond c a d)))) rest)
      go o high (xs, ys, is, h, (us, zs, is', (at, isu), (vs, ws, is'', ha, (cs, ds, is3, (mid, isc), hd)))) =
          let e = node s (roll-EForm (E.Cond c a d)) in
          let question : ys ≡ token (kind.Mark mark.Question) at ∷ zs = is' ∙ ap (λ l. l ++ zs) isu in
          let colon : ws ≡ token (kind.Mark mark.Colon) mid ∷ ds = is3 ∙ ap (λ l. l ++ ds) isc in
          let start = xs ++ (ys ++ rest) in
          let p : ts ++ rest ≡ start = cut _ _ is rest in
          let all = both_true (binds 12 (place_of c) && (place_of a).placed) (binds 13 (place_of d)) o.placed in
          let two = both_true (binds 12 (place_of c)) (place_of a).placed all.0 in
          let cond_is = both_true (place_of c).placed (leb (place_of c).level 12) two.0 in
          let other_is = both_true (place_of d).placed (leb (place_of d).level 13) all.1 in
          let twelve : (place_of c).level ≤ 12 = leb-true (place_of c).level 12 cond_is.1 in
          let fit : Fit c xs (suc b) level = record { spelt = h; placed = cond_is.0; within = omega (arith, o.within); level_is = omega arith } in
          let edge = question_facts ys at zs rest ((place_of c).level - 1) level question in
          let ends = question_facts ys at zs rest level level question in
          let after_other : Stops 13 rest = record { chain = ends_less 13 level rest high stops.chain; base = stops.base; uncalled = stops.uncalled; question = sym (ap (λ t. t && mark_ahead mark.Question rest) (le-leb 13 level high)) ∙ stops.question } in
          let choice : choice_at (inner b) (suc b) start (deep c) (ys ++ rest) ≡ Some (pair (deep e) rest) =
          bind_is (mark_at mark.Question (ys ++ rest)) _ (mark_read mark.Question ys at zs rest question)
          (bind_is (expr_at trees b 13 (zs ++ rest)) _ (ap (expr_at trees b 13) (cut _ _ is'' rest) ∙ ka.whole b 13 vs (ws ++ rest) (part a vs b ha two.1 (omega (arith, o.within)) ka.low) (stops_at mark.Colon ws mid ds rest colon refl))
          (bind_is (mark_at mark.Colon (ws ++ rest)) _ (mark_read mark.Colon ws mid ds rest colon)
          (bind_is (expr_at trees b 13 (ds ++ rest)) _ (kd.whole b 13 ds rest (part d ds b hd other_is.0 (omega (arith, o.within)) kd.low) after_other)
          (made_is b s (E.Cond c a d) (eform.Cond c a d) (max (expr_depth c) (max (expr_depth a) (expr_depth d))) start ts rest (eform.rolls-Cond c a d) (sym p) o.span refl o.within)))) in
          ap (level_at trees (inner b) (suc b) level) p
          ∙ bind_assoc (operand_at trees (inner b) (suc b) level start) (λ q. Chain b level start q.0 q.1) (λ q. behind_cond (inner b) (suc b) level start q.0 q.1)
          ∙ ap (λ (o : Option (Deep × List Token)). o >>= λ q. behind_cond (inner b) (suc b) level start q.0 q.1)
          (kc.chain b level xs (ys ++ rest) fit twelve edge.0 edge.1 edge.2
          ∙ repeated_ends (ends_chain level) (behind_operand (inner b) (suc b) start) (deep c) (ys ++ rest) ends.0)
          ∙ if_yes (leb 13 level && mark_ahead mark.Question (ys ++ rest)) (choice_at (inner b) (suc b) start (deep c) (ys ++ rest)) _ (both (le-leb 13 level high) (mark_seen mark.Question ys at zs rest question)) choice

  -- Expressions with commas between them

  abbrev Known : Type 0
  Known = (e : Expr) × Complete e

  abbrev names : List Known → List Expr
  names qs = map (λ q. q.0) qs

  abbrev push : Row → Known → Row
  push row q = push_expr row (deep q.0)

  pushed_items : (r : Row) (qs : List Known) → (pushed push r qs).items ≡ r.items ++ names qs
  unfolding push_expr
  pushed_items r [] = sym (append-nil r.items)
  pushed_items r (q ∷ qs) = pushed_items (push_expr r (deep q.0)) qs ∙ append_assoc r.items (q.0 ∷ []) (names qs)

  pushed_depth : (r : Row) (qs : List Known) → (pushed push r qs).depth ≡ max r.depth (deepest (map expr_depth (names qs)))
  unfolding push_expr
  pushed_depth r [] = omega arith
  pushed_depth r (q ∷ qs) = omega (arith, pushed_depth (push_expr r (deep q.0)) qs)

  record Good (b : ℕ) (q : Known) : Type 0 where
    placed : (place_of q.0).placed ≡ true
    within : expr_depth q.0 ≤ b

  all_good : (b : ℕ) (qs : List Known) → all_placed (map place_of (names qs)) ≡ true → deepest (map expr_depth (names qs)) ≤ b → AllAre (Good b) qs
  all_good b [] p d = tt
  all_good b (q ∷ qs) p d =
      let ps = both_true (place_of q.0).placed (all_placed (map place_of (names qs))) p in
      (record { placed = ps.0; within = omega arith }, all_good b qs ps.1 (omega arith))

  abbrev CommaBehind : Known → Phrase
  CommaBehind q = Sign mark.Comma ▸ ExprBy says q.0

  next_expr_reads : (b : ℕ) (row : Row) (q : Known) (ts rest : List Token) → Good b q → CommaBehind q ts → Stops 13 rest → next_expr (inner b) row (ts ++ rest) ≡ Some (pair (push row q) rest)
  unfolding next_expr
  next_expr_reads b row q ts rest good h stops =
      let g = first h in
      bind_is (mark_at mark.Comma (ts ++ rest)) _ (mark_read mark.Comma ts g.at g.behind rest g.is)
      (bind_is (expr_at trees b 13 (g.behind ++ rest)) _ (q.1.whole b 13 g.behind rest (part q.0 g.behind b g.then_ good.placed good.within q.1.low) stops) refl)

  comma_goes_on : (q : Known) (ts rest : List Token) → CommaBehind q ts → ends_row (ts ++ rest) ≡ false
  unfolding ends_row
  comma_goes_on q ts rest h = let g = first h in ap not (mark_seen mark.Comma ts g.at g.behind rest g.is)

  comma_stops : (q : Known) (ts rest : List Token) → CommaBehind q ts → Stops 13 (ts ++ rest)
  comma_stops q ts rest h = let g = first h in stops_at mark.Comma ts g.at g.behind rest g.is refl

  row_reads : (b : ℕ) (qs : List Known) (row : Row) (ts rest : List Token) → AllAre (Good b) qs → Each CommaBehind qs ts → Stops 13 rest → ends_row rest ≡ true → repeated ends_row (next_expr (inner b)) row (ts ++ rest) ≡ Some (pair (pushed push row qs) rest)
  row_reads b qs row ts rest ok h stops ends =
      each_read ends_row (next_expr (inner b)) (next_expr_shrinks says b (inner b) (expr_sound says trees fair b)) CommaBehind push (Good b) (Stops 13)
      (λ row q ts rest good h stops. next_expr_reads b row q ts rest good h stops) (λ q ts rest h. comma_goes_on q ts rest h) (λ q ts rest h. comma_stops q ts rest h)
      qs row ts rest ok h stops ends

  behind_first : (qs : List Known) (ts rest : List Token) → Each CommaBehind qs ts → Stops 13 rest → Stops 13 (ts ++ rest)
  behind_first [] ts rest h s = subst (λ l. Stops 13 (l ++ rest)) (sym h) s
  behind_first (q ∷ qs) ts rest (xs, ys, is, h, more) s = subst (Stops 13) (sym (cut _ _ is rest)) (comma_stops q xs (ys ++ rest) h)

  exprs_read : (b : ℕ) (q : Known) (qs : List Known) (ts rest : List Token) → all_placed (map place_of (names (q ∷ qs))) ≡ true → deepest (map expr_depth (names (q ∷ qs))) ≤ b → Between (Sign mark.Comma) (ExprBy says) (names (q ∷ qs)) ts → Stops 13 rest → ends_row rest ≡ true → exprs_at (inner b) (ts ++ rest) ≡ Some (pair (record { items = names (q ∷ qs); depth = deepest (map expr_depth (names (q ∷ qs))) }) rest)
  unfolding exprs_at
  exprs_read b q qs ts rest p d (xs, ys, is, hq, more) stops ends =
      let each : Each CommaBehind qs ys = subst (λ (P : Phrase). P ys) (sym (each_map (λ e. Sign mark.Comma ▸ ExprBy says e) (λ (q : Known). q.0) qs)) (behind_each (Sign mark.Comma) (ExprBy says) (names qs) ys more) in
      let good = all_good b (q ∷ qs) p d in
      let row = pushed push (one_expr (deep q.0)) qs in
      ap (exprs_at (inner b)) (cut _ _ is rest)
      ∙ bind_is (expr_at trees b 13 (xs ++ (ys ++ rest))) _ (q.1.whole b 13 xs (ys ++ rest) (part q.0 xs b hq good.0.placed good.0.within q.1.low) (behind_first qs ys rest each stops))
      (row_reads b qs (one_expr (deep q.0)) ys rest good.1 each stops ends ∙ (λ i. Some (pair (record { items = pushed_items (one_expr (deep q.0)) qs i; depth = pushed_depth (one_expr (deep q.0)) qs i }) rest)))

  row_ends : (m : Mark) (ts : List Token) (at : Span) (ys rest : List Token) → ts ≡ token (kind.Mark m) at ∷ ys → not (is_mark mark.Comma (kind.Mark m)) ≡ true → ends_row (ts ++ rest) ≡ true
  unfolding ends_row mark_ahead
  row_ends m ts at ys rest e h = ap (λ l. ends_row (l ++ rest)) e ∙ h

  braces_reads : (s : Span) (qs : List Known) → PrimaryReads s (E.Braces (names qs))
  unfolding PrimaryReads primary_at braces_at
  braces_reads s [] b ts rest o uncalled = let bad : false ≡ true = o.spelt.0 in cc
  braces_reads s (q ∷ qs) b ts rest o uncalled = go o.spelt.1
    where
      go : (Sign mark.OpenBrace ▸ Between (Sign mark.Comma) (ExprBy says) (names (q ∷ qs)) ▸ Sign mark.CloseBrace) ts → primary_at trees (inner b) (suc b) (ts ++ rest) ≡ Some (pair (deep (node s (roll-EForm (E.Braces (names (q ∷ qs)))))) rest)
      go (us, ys, is, (at, isu), (xs, zs, is', h, (end, isz))) =
          let front : ts ≡ token (kind.Mark mark.OpenBrace) at ∷ ys = is ∙ ap (λ l. l ++ ys) isu in
          let start = token (kind.Mark mark.OpenBrace) at ∷ (ys ++ rest) in
          ap (λ u. primary_at trees (inner b) (suc b) (u ++ rest)) front
          ∙ bind_is (exprs_at (inner b) (ys ++ rest)) _ (ap (exprs_at (inner b)) (cut _ _ is' rest) ∙ exprs_read b q qs xs (zs ++ rest) o.placed o.within h (stops_at mark.CloseBrace zs end [] rest isz refl) (row_ends mark.CloseBrace zs end [] rest isz refl))
          (bind_is (mark_at mark.CloseBrace (zs ++ rest)) _ (mark_read mark.CloseBrace zs end [] rest isz)
          (made_is b s (E.Braces (names (q ∷ qs))) (eform.Braces (names (q ∷ qs))) (deepest (map expr_depth (names (q ∷ qs)))) start ts rest (eform.rolls-Braces (names (q ∷ qs))) (sym (ap (λ u. u ++ rest) front)) o.span refl o.within))

  -- no expression begins with a closing parenthesis
  close_reads_not : (b : ℕ) (s : Span) (ts : List Token) → expr_at trees b 13 (token (kind.Mark mark.CloseParen) s ∷ ts) ≡ None
  unfolding expr_at level_at operand_at base_at primary_at sign_at
  close_reads_not zero s ts = refl
  close_reads_not (suc b) s ts = refl

  opens_args : (b : ℕ) (ts : List Token) (d : Deep) (rest : List Token) → expr_at trees b 13 ts ≡ Some (pair d rest) → mark_ahead mark.CloseParen ts ≡ false
  opens_args b ts d rest e = go (mark_ahead mark.CloseParen ts) refl
    where
      go : (c : Bool) → mark_ahead mark.CloseParen ts ≡ c → mark_ahead mark.CloseParen ts ≡ false
      go false h = h
      go true h =
          let at = ahead_stands mark.CloseParen ts h in
          let bad : None ≡ Some (pair d rest) = sym (ap (expr_at trees b 13) at.1.is ∙ close_reads_not b at.1.at at.0) ∙ e in
          absurd (cc)

  args_read : (b : ℕ) (qs : List Known) (ts : List Token) (at : Span) (ys rest : List Token) → all_placed (map place_of (names qs)) ≡ true → deepest (map expr_depth (names qs)) ≤ b → Between (Sign mark.Comma) (ExprBy says) (names qs) ts → ys ≡ token (kind.Mark mark.CloseParen) at ∷ [] → args_at (inner b) (ts ++ (ys ++ rest)) ≡ Some (pair (record { items = names qs; depth = deepest (map expr_depth (names qs)) }) (ys ++ rest))
  unfolding args_at
  args_read b [] ts at ys rest p d h e =
      ap (λ l. args_at (inner b) (l ++ (ys ++ rest))) h
      ∙ if_yes (mark_ahead mark.CloseParen (ys ++ rest)) (Some (pair (record { items = []; depth = 0 }) (ys ++ rest))) _ (mark_seen mark.CloseParen ys at [] rest e) refl
  args_read b (q ∷ qs) ts at ys rest p d h e =
      let stops = stops_at mark.CloseParen ys at [] rest e refl in
      let ends = row_ends mark.CloseParen ys at [] rest e refl in
      if_no (mark_ahead mark.CloseParen (ts ++ (ys ++ rest))) _ (exprs_at (inner b) (ts ++ (ys ++ rest))) (opened_args h) (exprs_read b q qs ts (ys ++ rest) p d h stops ends)
    where
      opened_args : Between (Sign mark.Comma) (ExprBy says) (names (q ∷ qs)) ts → mark_ahead mark.CloseParen (ts ++ (ys ++ rest)) ≡ false
      opened_args (xs, zs, is, hq, more) =
          let each : Each CommaBehind qs zs = subst (λ (P : Phrase). P zs) (sym (each_map (λ e. Sign mark.Comma ▸ ExprBy says e) (λ (q : Known). q.0) qs)) (behind_each (Sign mark.Comma) (ExprBy says) (names qs) zs more) in
          let good = all_good b (q ∷ qs) p d in
          let stops = behind_first qs zs (ys ++ rest) each (stops_at mark.CloseParen ys at [] rest e refl) in
          ap (mark_ahead mark.CloseParen) (cut _ _ is (ys ++ rest))
          ∙ opens_args b (xs ++ (zs ++ (ys ++ rest))) (deep q.0) (zs ++ (ys ++ rest)) (q.1.whole b 13 xs (zs ++ (ys ++ rest)) (part q.0 xs b hq good.0.placed good.0.within q.1.low) stops)

  call_reads : (s : Span) (x : List ℕ) (qs : List Known) → PrimaryReads s (E.Call x (names qs))
  unfolding PrimaryReads primary_at named_at call_at
  call_reads s x qs b ts rest o uncalled = go o.spelt
    where
      go : (One (kind.Word x) ▸ Sign mark.OpenParen ▸ Between (Sign mark.Comma) (ExprBy says) (names qs) ▸ Sign mark.CloseParen) ts → primary_at trees (inner b) (suc b) (ts ++ rest) ≡ Some (pair (deep (node s (roll-EForm (E.Call x (names qs))))) rest)
      go (us, ys, is, (at, isu), (vs, ws, is', (mid, isv), (xs, zs, is'', h, (end, isz)))) =
          let front : ts ≡ token (kind.Word x) at ∷ ys = is ∙ ap (λ l. l ++ ys) isu in
          let bracket : ys ≡ token (kind.Mark mark.OpenParen) mid ∷ ws = is' ∙ ap (λ l. l ++ ws) isv in
          let start = token (kind.Word x) at ∷ (ys ++ rest) in
          ap (λ u. primary_at trees (inner b) (suc b) (u ++ rest)) front
          ∙ if_yes (mark_ahead mark.OpenParen (ys ++ rest)) _ _ (mark_seen mark.OpenParen ys mid ws rest bracket)
          (bind_is (mark_at mark.OpenParen (ys ++ rest)) _ (mark_read mark.OpenParen ys mid ws rest bracket)
          (bind_is (args_at (inner b) (ws ++ rest)) _ (ap (args_at (inner b)) (cut _ _ is'' rest) ∙ args_read b qs xs end zs rest o.placed o.within h isz)
          (bind_is (mark_at mark.CloseParen (zs ++ rest)) _ (mark_read mark.CloseParen zs end [] rest isz)
          (made_is b s (E.Call x (names qs)) (eform.Call x (names qs)) (deepest (map expr_depth (names qs))) start ts rest (eform.rolls-Call x (names qs)) (sym (ap (λ u. u ++ rest) front)) o.span refl o.within))))

  wide_hole_reads : (s : Span) (n : ℕ) → PrimaryReads s (E.Hole (Some n))
  unfolding PrimaryReads primary_at hole_at wide_hole_at
  wide_hole_reads s n b ts rest o uncalled = go o.spelt
    where
      go : (Sign mark.Hole ▸ Sign mark.OpenParen ▸ One (kind.Number n) ▸ Sign mark.CloseParen) ts → primary_at trees (inner b) (suc b) (ts ++ rest) ≡ Some (pair (deep (node s (roll-EForm (E.Hole (Some n))))) rest)
      go (us, ys, is, (at, isu), (vs, ws, is', (mid, isv), (xs, zs, is'', (num, isx), (end, isz)))) =
          let front : ts ≡ token (kind.Mark mark.Hole) at ∷ ys = is ∙ ap (λ l. l ++ ys) isu in
          let bracket : ys ≡ token (kind.Mark mark.OpenParen) mid ∷ ws = is' ∙ ap (λ l. l ++ ws) isv in
          let number : ws ≡ token (kind.Number n) num ∷ zs = is'' ∙ ap (λ l. l ++ zs) isx in
          let start = token (kind.Mark mark.Hole) at ∷ (ys ++ rest) in
          ap (λ u. primary_at trees (inner b) (suc b) (u ++ rest)) front
          ∙ if_yes (mark_ahead mark.OpenParen (ys ++ rest)) _ _ (mark_seen mark.OpenParen ys mid ws rest bracket)
          (bind_is (mark_at mark.OpenParen (ys ++ rest)) _ (mark_read mark.OpenParen ys mid ws rest bracket)
          (bind_is (number_at (ws ++ rest)) _ (number_read n ws num zs rest number)
          (bind_is (mark_at mark.CloseParen (zs ++ rest)) _ (mark_read mark.CloseParen zs end [] rest isz)
          (made_is b s (E.Hole (Some n)) (eform.Hole (Some n)) 0 start ts rest (eform.rolls-Hole (Some n)) (sym (ap (λ u. u ++ rest) front)) o.span refl o.within))))

  offer_reads : (s : Span) (p : Pattern) (es : List Expr) → PrimaryReads s (E.Pattern p es)
  unfolding PrimaryReads primary_at offer_at ends_choice ends_sequence mark_ahead
  offer_reads s p es b ts rest o uncalled =
      let said : says p es ts = subst (λ l. says p l ts) (map-id es) o.spelt in
      let given = offered p es ts said in
      go given.0 given.1
    where
      closes : (zs : List Token) (at : Span) → zs ≡ token (kind.Mark mark.ClosePattern) at ∷ [] → Follows AsChoice (zs ++ rest)
      closes zs at e = (ap (λ l. ends_choice (l ++ rest)) e, ap (λ l. ends_sequence (l ++ rest)) e, ap (λ l. mark_ahead mark.Question (l ++ rest)) e)

      go : trees p ≡ Some es → (Sign mark.OpenPattern ▸ SpeltPart p AsChoice ▸ Sign mark.ClosePattern) ts → primary_at trees (inner b) (suc b) (ts ++ rest) ≡ Some (pair (deep (node s (roll-EForm (E.Pattern p es)))) rest)
      go given (us, ys, is, (at, isu), (xs, zs, is', h, (end, isz))) =
          let front : ts ≡ token (kind.Mark mark.OpenPattern) at ∷ ys = is ∙ ap (λ l. l ++ ys) isu in
          let start = token (kind.Mark mark.OpenPattern) at ∷ (ys ++ rest) in
          ap (λ u. primary_at trees (inner b) (suc b) (u ++ rest)) front
          ∙ bind_is (pattern_at (suc b) AsChoice (ys ++ rest)) _ (ap (pattern_at (suc b) AsChoice) (cut _ _ is' rest) ∙ (pattern_reads p).reads (suc b) AsChoice xs (zs ++ rest) (omega (arith, o.within)) h (closes zs end isz))
          (bind_is (mark_at mark.ClosePattern (zs ++ rest)) _ (mark_read mark.ClosePattern zs end [] rest isz)
          (bind_is (trees p) _ given
          (made_is b s (E.Pattern p es) (eform.Pattern p es) (pattern_depth p) start ts rest (eform.rolls-Pattern p es) (sym (ap (λ u. u ++ rest) front)) o.span refl o.within)))

  -- Fields

  abbrev KnownField : Type 0
  KnownField = (n : NewField) × Complete n.value

  abbrev sets : List KnownField → List NewField
  sets qs = map (λ q. q.0) qs

  abbrev set : Fields → KnownField → Fields
  set fields q = push_field fields q.0.name (deep q.0.value) (suc (expr_depth q.0.value))

  set_items : (r : Fields) (qs : List KnownField) → (pushed set r qs).items ≡ r.items ++ sets qs
  unfolding push_field
  set_items r [] = sym (append-nil r.items)
  set_items r (q ∷ qs) = set_items (push_field r q.0.name (deep q.0.value) (suc (expr_depth q.0.value))) qs ∙ append_assoc r.items (q.0 ∷ []) (sets qs)

  set_depth : (r : Fields) (qs : List KnownField) → (pushed set r qs).depth ≡ max r.depth (deepest (map field_depth (sets qs)))
  unfolding push_field
  set_depth r [] = omega arith
  set_depth r (q ∷ qs) = omega (arith, set_depth (push_field r q.0.name (deep q.0.value) (suc (expr_depth q.0.value))) qs, field_depth_is q.0.name q.0.value)

  record GoodField (b : ℕ) (q : KnownField) : Type 0 where
    placed : (place_of q.0.value).placed ≡ true
    within : suc (expr_depth q.0.value) ≤ b

  all_good_fields : (b : ℕ) (qs : List KnownField) → are_yes (map field_place (sets qs)) ≡ true → deepest (map field_depth (sets qs)) ≤ b → AllAre (GoodField b) qs
  all_good_fields b [] p d = tt
  all_good_fields b (q ∷ qs) p d =
      let ps = both_true (field_place q.0) (are_yes (map field_place (sets qs))) p in
      (record { placed = sym (field_place_is q.0.name q.0.value) ∙ ps.0; within = omega (arith, field_depth_is q.0.name q.0.value) }, all_good_fields b qs ps.1 (omega arith))

  field_reads : (b : ℕ) (fields : Fields) (q : KnownField) (ts rest : List Token) → GoodField b q → FieldBy says q.0 ts → Stops 13 rest → field_at (inner b) (suc b) fields (ts ++ rest) ≡ Some (pair (set fields q) rest)
  unfolding field_at
  field_reads b fields q ts rest good h stops = go (subst (λ (P : Phrase). P ts) (field_by says q.0) h)
    where
      go : (One (kind.Word q.0.name) ▸ Sign mark.Assign ▸ ExprBy says q.0.value) ts → field_at (inner b) (suc b) fields (ts ++ rest) ≡ Some (pair (set fields q) rest)
      go (us, ys, is, (at, isu), (vs, ws, is', (mid, isv), hv)) =
          let front : ts ≡ token (kind.Word q.0.name) at ∷ ys = is ∙ ap (λ l. l ++ ys) isu in
          let gets : ys ≡ token (kind.Mark mark.Assign) mid ∷ ws = is' ∙ ap (λ l. l ++ ws) isv in
          bind_is (word_at (ts ++ rest)) _ (word_read q.0.name ts at ys rest front)
          (bind_is (mark_at mark.Assign (ys ++ rest)) _ (mark_read mark.Assign ys mid ws rest gets)
          (bind_is (expr_at trees b 13 (ws ++ rest)) _ (q.1.whole b 13 ws rest (part q.0.value ws b hv good.placed (omega (arith, good.within)) q.1.low) stops)
          (bind_is (deeper (suc b) (expr_depth q.0.value)) _ (deeper_is (suc b) (expr_depth q.0.value) (omega (arith, good.within))) refl)))

  abbrev FieldBehind : KnownField → Phrase
  FieldBehind q = Sign mark.Comma ▸ FieldBy says q.0

  next_field_reads : (b : ℕ) (fields : Fields) (q : KnownField) (ts rest : List Token) → GoodField b q → FieldBehind q ts → Stops 13 rest → next_field (inner b) (suc b) fields (ts ++ rest) ≡ Some (pair (set fields q) rest)
  unfolding next_field
  next_field_reads b fields q ts rest good h stops =
      let g = first h in
      bind_is (mark_at mark.Comma (ts ++ rest)) _ (mark_read mark.Comma ts g.at g.behind rest g.is) (field_reads b fields q g.behind rest good g.then_ stops)

  field_goes_on : (q : KnownField) (ts rest : List Token) → FieldBehind q ts → ends_row (ts ++ rest) ≡ false
  unfolding ends_row
  field_goes_on q ts rest h = let g = first h in ap not (mark_seen mark.Comma ts g.at g.behind rest g.is)

  field_stops : (q : KnownField) (ts rest : List Token) → FieldBehind q ts → Stops 13 (ts ++ rest)
  field_stops q ts rest h = let g = first h in stops_at mark.Comma ts g.at g.behind rest g.is refl

  more_fields_read : (b : ℕ) (qs : List KnownField) (fields : Fields) (ts rest : List Token) → AllAre (GoodField b) qs → Each FieldBehind qs ts → Stops 13 rest → ends_row rest ≡ true → repeated ends_row (next_field (inner b) (suc b)) fields (ts ++ rest) ≡ Some (pair (pushed set fields qs) rest)
  more_fields_read b qs fields ts rest ok h stops ends =
      each_read ends_row (next_field (inner b) (suc b)) (next_field_shrinks says b (inner b) (expr_sound says trees fair b)) FieldBehind set (GoodField b) (Stops 13)
      (λ fields q ts rest good h stops. next_field_reads b fields q ts rest good h stops) (λ q ts rest h. field_goes_on q ts rest h) (λ q ts rest h. field_stops q ts rest h)
      qs fields ts rest ok h stops ends

  behind_first_field : (qs : List KnownField) (ts rest : List Token) → Each FieldBehind qs ts → Stops 13 rest → Stops 13 (ts ++ rest)
  behind_first_field [] ts rest h s = subst (λ l. Stops 13 (l ++ rest)) (sym h) s
  behind_first_field (q ∷ qs) ts rest (xs, ys, is, h, more) s = subst (Stops 13) (sym (cut _ _ is rest)) (field_stops q xs (ys ++ rest) h)

  word_opens : (n : NewField) (ts rest : List Token) → FieldBy says n ts → mark_ahead mark.CloseParen (ts ++ rest) ≡ false
  unfolding mark_ahead
  word_opens n ts rest h =
      let g = first (subst (λ (P : Phrase). P ts) (field_by says n) h) in
      ap (λ l. mark_ahead mark.CloseParen (l ++ rest)) g.is

  fields_read : (b : ℕ) (qs : List KnownField) (ts : List Token) (at : Span) (ys rest : List Token) → are_yes (map field_place (sets qs)) ≡ true → deepest (map field_depth (sets qs)) ≤ b → Between (Sign mark.Comma) (FieldBy says) (sets qs) ts → ys ≡ token (kind.Mark mark.CloseParen) at ∷ [] → fields_at (inner b) (suc b) (ts ++ (ys ++ rest)) ≡ Some (pair (record { items = sets qs; depth = deepest (map field_depth (sets qs)) }) (ys ++ rest))
  unfolding fields_at some_fields_at
  fields_read b [] ts at ys rest p d h e =
      ap (λ l. fields_at (inner b) (suc b) (l ++ (ys ++ rest))) h
      ∙ if_yes (mark_ahead mark.CloseParen (ys ++ rest)) (Some (pair no_fields (ys ++ rest))) _ (mark_seen mark.CloseParen ys at [] rest e) refl
  fields_read b (q ∷ qs) ts at ys rest p d (xs, zs, is, hq, more) e =
      let behind = ys ++ rest in
      let each : Each FieldBehind qs zs = subst (λ (P : Phrase). P zs) (sym (each_map (λ n. Sign mark.Comma ▸ FieldBy says n) (λ (q : KnownField). q.0) qs)) (behind_each (Sign mark.Comma) (FieldBy says) (sets qs) zs more) in
      let good = all_good_fields b (q ∷ qs) p d in
      let stops = stops_at mark.CloseParen ys at [] rest e refl in
      let ends = row_ends mark.CloseParen ys at [] rest e refl in
      let depth : (pushed set (set no_fields q) qs).depth ≡ deepest (map field_depth (sets (q ∷ qs))) = omega (arith, set_depth no_fields (q ∷ qs)) in
      ap (fields_at (inner b) (suc b)) (cut _ _ is behind)
      ∙ if_no (mark_ahead mark.CloseParen (xs ++ (zs ++ behind))) _ (some_fields_at (inner b) (suc b) (xs ++ (zs ++ behind))) (word_opens q.0 xs (zs ++ behind) hq)
      (bind_is (field_at (inner b) (suc b) no_fields (xs ++ (zs ++ behind))) _ (field_reads b no_fields q xs (zs ++ behind) good.0 hq (behind_first_field qs zs behind each stops))
      (more_fields_read b qs (set no_fields q) zs behind good.1 each stops ends ∙ (λ i. Some (pair (record { items = set_items no_fields (q ∷ qs) i; depth = depth i }) behind))))

  new_reads : (s : Span) (x : List ℕ) (qs : List KnownField) → PrimaryReads s (E.New x (sets qs))
  unfolding PrimaryReads primary_at new_at
  new_reads s x qs b ts rest o uncalled = go o.spelt
    where
      go : (Keyword key.New ▸ One (kind.Word x) ▸ Sign mark.OpenParen ▸ Between (Sign mark.Comma) (FieldBy says) (sets qs) ▸ Sign mark.CloseParen) ts → primary_at trees (inner b) (suc b) (ts ++ rest) ≡ Some (pair (deep (node s (roll-EForm (E.New x (sets qs))))) rest)
      go (us, ys, is, (at, isu), (ns, ms, is', (num, isn), (vs, ws, is'', (mid, isv), (xs, zs, is3, h, (end, isz))))) =
          let front : ts ≡ token (kind.Key key.New) at ∷ ys = is ∙ ap (λ l. l ++ ys) isu in
          let name : ys ≡ token (kind.Word x) num ∷ ms = is' ∙ ap (λ l. l ++ ms) isn in
          let bracket : ms ≡ token (kind.Mark mark.OpenParen) mid ∷ ws = is'' ∙ ap (λ l. l ++ ws) isv in
          let start = token (kind.Key key.New) at ∷ (ys ++ rest) in
          ap (λ u. primary_at trees (inner b) (suc b) (u ++ rest)) front
          ∙ bind_is (word_at (ys ++ rest)) _ (word_read x ys num ms rest name)
          (bind_is (mark_at mark.OpenParen (ms ++ rest)) _ (mark_read mark.OpenParen ms mid ws rest bracket)
          (bind_is (fields_at (inner b) (suc b) (ws ++ rest)) _ (ap (fields_at (inner b) (suc b)) (cut _ _ is3 rest) ∙ fields_read b qs xs end zs rest o.placed o.within h isz)
          (bind_is (mark_at mark.CloseParen (zs ++ rest)) _ (mark_read mark.CloseParen zs end [] rest isz)
          (made_is b s (E.New x (sets qs)) (eform.New x (sets qs)) (deepest (map field_depth (sets qs))) start ts rest (eform.rolls-New x (sets qs)) (sym (ap (λ u. u ++ rest) front)) o.span refl o.within))))

  -- All expressions

  complete_never : (e : Expr) → 0 < expr_depth e → (place_of e).level ≤ 13 → ((place_of e).placed ≡ true → ⊥) → Complete e
  complete_never e some low never = record {
    some = some;
    low = low;
    base = λ b ts rest f uncalled. absurd (never f.placed);
    chain = λ b level ts rest f l edge eb uncalled. absurd (never f.placed);
    whole = λ b level ts rest f stops. absurd (never f.placed);
  }

  complete_binary : (s : Span) (op : Mark) (a c : Expr) → Complete a → Complete c → (t : Bool) → leb 3 (level_of op) ≡ t → Complete (node s (roll-EForm (E.Binary op a c)))
  complete_binary s op a c ka kc true h =
      let three : 3 ≤ level_of op = leb-true 3 (level_of op) h in
      complete_chain (node s (roll-EForm (E.Binary op a c))) (node_some s (E.Binary op a c)) (omega (arith, level_of_node s (E.Binary op a c))) (omega (arith, level_of_node s (E.Binary op a c), level_low op)) (binary_reads s op a c ka kc)
  complete_binary s op a c ka kc false h =
      complete_never (node s (roll-EForm (E.Binary op a c))) (node_some s (E.Binary op a c)) (omega (arith, level_of_node s (E.Binary op a c), level_low op))
      (λ p.
      let q : ((leb 3 (level_of op) && binds (level_of op) (place_of a)) && binds (level_of op - 1) (place_of c)) ≡ true = sym (ap (λ (x : Place). x.placed) (place_is s (E.Binary op a c) (roll-EForm (E.Binary op a c)) refl)) ∙ p in
      let bad : false ≡ true = sym h ∙ (both_true (leb 3 (level_of op)) (binds (level_of op) (place_of a)) (both_true (leb 3 (level_of op) && binds (level_of op) (place_of a)) (binds (level_of op - 1) (place_of c)) q).0).0 in
      absurd (cc))

  abbrev FormComplete : EForm → Type 0
  FormComplete f = (s : Span) → Complete (node s f)

  abbrev FieldComplete : NewField → Type 0
  FieldComplete n = Complete n.value

  layer : (y : ExprLayer FormComplete Complete FieldComplete) → FormComplete (roll-EForm (expr_parts FormComplete Complete FieldComplete y))
  unfolding primary_at named_at hole_at
  layer (E.Number n) s = complete_primary s (E.Number n) refl (leaf_reads s (kind.Number n) (E.Number n) (eform.Number n) (eform.rolls-Number n) refl refl (λ b at rest uncalled. refl))
  layer E.True s = complete_primary s E.True refl (leaf_reads s (kind.Key key.True) E.True eform.True eform.rolls-True refl refl (λ b at rest uncalled. refl))
  layer E.False s = complete_primary s E.False refl (leaf_reads s (kind.Key key.False) E.False eform.False eform.rolls-False refl refl (λ b at rest uncalled. refl))
  layer E.Null s = complete_primary s E.Null refl (leaf_reads s (kind.Key key.Null) E.Null eform.Null eform.rolls-Null refl refl (λ b at rest uncalled. refl))
  layer (E.Word x) s = complete_primary s (E.Word x) refl (leaf_reads s (kind.Word x) (E.Word x) (eform.Word x) (eform.rolls-Word x) refl refl (λ b at rest uncalled. if_no (mark_ahead mark.OpenParen rest) _ _ uncalled refl))
  layer (E.Hole None) s = complete_primary s (E.Hole None) refl (leaf_reads s (kind.Mark mark.Hole) (E.Hole None) (eform.Hole None) (eform.rolls-Hole None) refl refl (λ b at rest uncalled. if_no (mark_ahead mark.OpenParen rest) _ _ uncalled refl))
  layer (E.Hole (Some n)) s = complete_primary s (E.Hole (Some n)) refl (wide_hole_reads s n)
  layer (E.Pattern p strings) s = complete_primary s (E.Pattern p (names strings)) refl (offer_reads s p (names strings))
  layer (E.Paren a) s = complete_primary s (E.Paren a.0) refl (paren_reads s a.0 a.1)
  layer (E.Call x args) s = complete_primary s (E.Call x (names args)) refl (call_reads s x args)
  layer (E.New x fields) s = complete_primary s (E.New x (sets fields)) refl (new_reads s x fields)
  layer (E.Braces es) s = complete_primary s (E.Braces (names es)) refl (braces_reads s es)
  layer (E.Member a x) s = complete_base (node s (roll-EForm (E.Member a.0 x))) (node_some s (E.Member a.0 x)) (omega (arith, level_of_node s (E.Member a.0 x))) (member_reads s a.0 x a.1)
  layer (E.Index a i) s = complete_base (node s (roll-EForm (E.Index a.0 i.0))) (node_some s (E.Index a.0 i.0)) (omega (arith, level_of_node s (E.Index a.0 i.0))) (index_reads s a.0 i.0 a.1 i.1)
  layer (E.Slice a i n) s = complete_base (node s (roll-EForm (E.Slice a.0 i.0 n.0))) (node_some s (E.Slice a.0 i.0 n.0)) (omega (arith, level_of_node s (E.Slice a.0 i.0 n.0))) (slice_reads s a.0 i.0 n.0 a.1 i.1 n.1)
  layer (E.Unary op a) s = complete_chain (node s (roll-EForm (E.Unary op a.0))) (node_some s (E.Unary op a.0)) (omega (arith, level_of_node s (E.Unary op a.0))) (omega (arith, level_of_node s (E.Unary op a.0))) (unary_reads s op a.0 a.1)
  layer (E.Binary op a c) s = complete_binary s op a.0 c.0 a.1 c.1 (leb 3 (level_of op)) refl
  layer (E.Cond c a d) s = complete_whole (node s (roll-EForm (E.Cond c.0 a.0 d.0))) (node_some s (E.Cond c.0 a.0 d.0)) (level_of_node s (E.Cond c.0 a.0 d.0)) (cond_reads s c.0 a.0 d.0 c.1 a.1 d.1)

  -- what an expression is spelt by is read as that expression
  pub expr_complete : (e : Expr) → Complete e
  expr_complete = expr_law FormComplete Complete FieldComplete layer (λ e h. h e.span) (λ n h. h)
