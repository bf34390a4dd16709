-- Expressions in statements: how they are read, what targets and calls begin with, and that no declaration reads
-- where one of them stands.
use Rattle.std.proofs.Common.{◌≡◌, ℕ, zero, suc, ◌+◌, ◌≤◌, Bool, true, false, ◌||◌, List, [], ◌∷◌, ◌++◌, map, Option, Some, None, refl, sym, ap, ◌∙◌, subst, arith, append-nil, append_assoc}
use Rattle.std.specs.List.{list_all}
use Rattle.std.proofs.lemmas.Bool.{le-leb}
use Rattle.sk_base.specs.declared.span.Span.{Span}
use Rattle.sk_tree.specs.declared.token.Token.{Token}
use Rattle.sk_tree.specs.declared.token.Kind.{Kind}
use Rattle.sk_tree.specs.declared.token.Kind.TheVariants as kind
use Rattle.sk_tree.specs.declared.token.Mark.TheVariants as mark
use Rattle.sk_tree.specs.declared.token.Key.TheVariants as key
use Rattle.sk_tree.specs.declared.expr.Expr.{Expr}
use Rattle.sk_tree.specs.declared.expr.EForm.{EForm}
use Rattle.sk_tree.specs.declared.expr.NewField.{NewField}
use Rattle.sk_tree.specs.declared.expr.EForm.TheOpen as E
use Rattle.sk_tree.specs.declared.expr.EForm.TheViews.{roll-EForm}
use Rattle.sk_tree.specs.declared.expr.EForm.TheFolds.{map-EForm, fold-EForm, fold-NewField}
use Rattle.sk_tree.specs.declared.item.TyTree.{TyTree}
use Rattle.sk_tree.specs.declared.item.Base.{Base}
use Rattle.sk_tree.specs.declared.item.Base.TheVariants as base
use Rattle.sk_tree.specs.Phrase.{Phrase, Sign, One, Each, ◌▸◌, span_of}
use Rattle.sk_tree.specs.Spelt.{SpeltPattern, SpeltExpr, SpeltBase, SpeltLength, Role, asks, eform_is_place, eform_is_pattern, eform_is_call, is_target, is_call}
use Rattle.sk_tree.specs.Depth.{expr_depth}
use Rattle.sk_tree.specs.Placed.{Place, place_of, eform_place, expr_placed}
use Rattle.sk_tree.proofs.Layers.{LayerBy, ExprLayer, expr_parts, expr_law}
use Rattle.sk_parser_laws.specs.declared.pieces.Deep.{Deep}
use Rattle.sk_parser_laws.specs.Readers.{◌>>=◌, mark_ahead, word_at, inside}
use Rattle.sk_parser_laws.specs.ExprReader.{Trees, ends_chain, ends_base, level_at, operand_at, base_at, primary_at, sign_at, expr_at}
use Rattle.sk_parser_laws.specs.StringReader.{offers}
use Rattle.sk_parser_laws.specs.StmtReader.{value_at, ty_at, names_at, declared_at, declare_at}
use Rattle.sk_parser_laws.specs.StmtReader as stmts
use Rattle.sk_parser_laws.proofs.Loops.{pair, some_pair, Every, every_bind}
use Rattle.sk_parser_laws.proofs.Seen.{token, Stands, word_here, word_stands}
use Rattle.sk_parser_laws.proofs.ExprNodes.{Layer, node, folds, place_is, place_layer, open_spelt, close_spelt}
use Rattle.sk_parser_laws.proofs.ExprSound.{both, both_true, ends_less}
use Rattle.sk_parser_laws.proofs.Complete.{bind_is}
use Rattle.sk_parser_laws.proofs.ExprComplete.{Stops}
use Rattle.sk_parser_laws.proofs.Texts.{text_complete}
use Rattle.sk_parser_laws.proofs.StmtTakes.{any_inside}
use Rattle.sk_parser_laws.proofs.StmtSound.{FoundTy, ty_found}

-- An expression is read as any value of a statement is.
pub value_reads : (b : ℕ) (e : Expr) (ts rest : List Token) → SpeltExpr e ts → expr_placed e ≡ true → expr_depth e ≤ b → Stops 13 rest → value_at b (ts ++ rest) ≡ Some (pair e rest)
unfolding value_at
value_reads b e ts rest h p d stops =
    bind_is (expr_at (offers true) b 13 (ts ++ rest)) _ ((text_complete e).whole b 13 ts rest (record { spelt = h; placed = p; within = d; level_is = (text_complete e).low }) stops) refl

pub stops_less : (rest : List Token) → Stops 13 rest → Stops 1 rest
stops_less rest s = record { chain = ends_less 1 13 rest (omega arith) s.chain; base = s.base; uncalled = s.uncalled; question = refl }

pub base_reads : (b : ℕ) (e : Expr) (ts rest : List Token) → SpeltExpr e ts → expr_placed e ≡ true → expr_depth e ≤ b → (place_of e).level ≤ 1 → Stops 1 rest → stmts.base_at b (ts ++ rest) ≡ Some (pair e rest)
unfolding stmts.base_at
base_reads b e ts rest h p d low stops =
    bind_is (expr_at (offers true) b 1 (ts ++ rest)) _ ((text_complete e).whole b 1 ts rest (record { spelt = h; placed = p; within = d; level_is = low }) stops) refl

-- What no expression begins with

pub semicolon_reads_not : (trees : Trees) (b : ℕ) (s : Span) (ts : List Token) → expr_at trees b 13 (token (kind.Mark mark.Semicolon) s ∷ ts) ≡ None
unfolding expr_at level_at operand_at base_at primary_at sign_at
semicolon_reads_not trees zero s ts = refl
semicolon_reads_not trees (suc b) s ts = refl

pub assign_reads_not : (trees : Trees) (b : ℕ) (s : Span) (ts : List Token) → expr_at trees b 13 (token (kind.Mark mark.Assign) s ∷ ts) ≡ None
unfolding expr_at level_at operand_at base_at primary_at sign_at
assign_reads_not trees zero s ts = refl
assign_reads_not trees (suc b) s ts = refl

int_reads_not : (trees : Trees) (b : ℕ) (s : Span) (ts : List Token) → expr_at trees b 1 (token (kind.Key key.Int) s ∷ ts) ≡ None
unfolding expr_at level_at operand_at base_at primary_at sign_at
int_reads_not trees zero s ts = refl
int_reads_not trees (suc b) s ts = refl

bit_reads_not : (trees : Trees) (b : ℕ) (s : Span) (ts : List Token) → expr_at trees b 1 (token (kind.Key key.Bit) s ∷ ts) ≡ None
unfolding expr_at level_at operand_at base_at primary_at sign_at
bit_reads_not trees zero s ts = refl
bit_reads_not trees (suc b) s ts = refl

-- Targets and calls

-- a target or a call
abbrev pub is_front : Expr → Bool
is_front e = is_target e || is_call e

pub front_of_target : (e : Expr) → is_target e ≡ true → is_front e ≡ true
front_of_target e h = ap (λ c. c || is_call e) h

pub front_of_call : (e : Expr) → is_call e ≡ true → is_front e ≡ true
front_of_call e h = ap (λ c. is_target e || c) h ∙ off (is_target e)
  where
    off : (c : Bool) → (c || true) ≡ true
    off true = refl
    off false = refl

-- what a target or a call begins with
abbrev pub is_front_kind : Kind → Bool
is_front_kind (kind.Word x) = true
is_front_kind (kind.Mark mark.OpenPattern) = true
is_front_kind _ = false

pub record Front (ts : List Token) : Type 0 where
  pub what : Kind
  pub at : Span
  pub behind : List Token
  pub is : ts ≡ token what at ∷ behind
  pub good : is_front_kind what ≡ true

front_more : {xs ts : List Token} (ys : List Token) → ts ≡ xs ++ ys → Front xs → Front ts
front_more ys is f = record { what = f.what; at = f.at; behind = f.behind ++ ys; is = is ∙ ap (λ l. l ++ ys) f.is; good = f.good }

abbrev asked : (E.EForm-F Bool Bool (Unit {0}) → Bool) → Layer → E.EForm-F Bool Bool (Unit {0})
asked test l = map-EForm EForm Expr NewField Bool Bool (Unit {0}) (fold-EForm Bool Bool (Unit {0}) test (λ x. x.form) (λ x. tt)) (asks test) (fold-NewField Bool Bool (Unit {0}) test (λ x. x.form) (λ x. tt)) l

asks_is : (test : E.EForm-F Bool Bool (Unit {0}) → Bool) (s : Span) (l : Layer) → asks test (node s (roll-EForm l)) ≡ test (asked test l)
asks_is test s l = folds Bool Bool (Unit {0}) test (λ x. x.form) (λ x. tt) s l

abbrev front_layer : Layer → Bool
front_layer l = (eform_is_place (asked eform_is_place l) || eform_is_pattern (asked eform_is_pattern l)) || eform_is_call (asked eform_is_call l)

front_is : (s : Span) (l : Layer) → is_front (node s (roll-EForm l)) ≡ front_layer l
front_is s l = λ i. (asks_is eform_is_place s l i || asks_is eform_is_pattern s l i) || asks_is eform_is_call s l i

-- what is known of a target or a call
pub record Opens (e : Expr) : Type 0 where
  pub low : is_front e ≡ true → (place_of e).level ≤ 1
  pub front : is_front e ≡ true → (ts : List Token) → SpeltExpr e ts → Front ts

no_front : (s : Span) (l : Layer) → front_layer l ≡ false → Opens (node s (roll-EForm l))
no_front s l none = record {
  low = λ h. let bad : true ≡ false = sym h ∙ front_is s l ∙ none in absurd (cc);
  front = λ h ts spelt. let bad : true ≡ false = sym h ∙ front_is s l ∙ none in absurd (cc);
}

alone_low : (s : Span) (l : Layer) → (eform_place (place_layer l)).level ≡ 1 → (place_of (node s (roll-EForm l))).level ≤ 1
alone_low s l one = omega (arith, ap (λ (p : Place). p.level) (place_is s l (roll-EForm l) refl), one)

-- a place that stands before `.x` or `[i]`
based : (s : Span) (l : Layer) (a : Expr) (behind : Phrase) → Opens a → (eform_place (place_layer l)).level ≡ 1 → (front_layer l ≡ true → asks eform_is_place a ≡ true) → ((ts : List Token) → SpeltExpr (node s (roll-EForm l)) ts → (SpeltExpr a ▸ behind) ts) → Opens (node s (roll-EForm l))
based s l a behind known one place parted = record {
  low = λ h. alone_low s l one;
  front = λ h ts spelt. go ts (front_of_target a (ap (λ c. c || asks eform_is_pattern a) (place (sym (front_is s l) ∙ h)))) (parted ts spelt);
}
  where
    go : (ts : List Token) → is_front a ≡ true → (SpeltExpr a ▸ behind) ts → Front ts
    go ts h (xs, ys, is, spelt, q) = front_more ys is (known.front h xs spelt)

or_falses : (c : Bool) → ((c || false) || false) ≡ true → c ≡ true
or_falses true h = refl
or_falses false h = cc

abbrev FormOpens : EForm → Type 0
FormOpens f = (s : Span) → Opens (node s f)

abbrev Any : NewField → Type 0
Any n = Unit {0}

opened : (s : Span) (l : Layer) (ts : List Token) → SpeltExpr (node s (roll-EForm l)) ts → LayerBy SpeltPattern l ts
opened s l ts h = (open_spelt SpeltPattern s l (roll-EForm l) ts refl h).0

layer : (y : ExprLayer FormOpens Opens Any) → FormOpens (roll-EForm (expr_parts FormOpens Opens Any y))
layer (E.Word x) s = record {
  low = λ h. alone_low s (E.Word x) refl;
  front = λ h ts spelt. let o = opened s (E.Word x) ts spelt in record { what = kind.Word x; at = o.0; behind = []; is = o.1; good = refl };
}
layer (E.Pattern p es) s = record {
  low = λ h. alone_low s (E.Pattern p (map (λ q. q.0) es)) refl;
  front = λ h ts spelt.
      let o = opened s (E.Pattern p (map (λ q. q.0) es)) ts spelt in
      record { what = kind.Mark mark.OpenPattern; at = o.1.3.0; behind = o.1.1; is = o.1.2 ∙ ap (λ l. l ++ o.1.1) o.1.3.1; good = refl };
}
layer (E.Call x args) s = record {
  low = λ h. alone_low s (E.Call x (map (λ q. q.0) args)) refl;
  front = λ h ts spelt.
      let o = opened s (E.Call x (map (λ q. q.0) args)) ts spelt in
      record { what = kind.Word x; at = o.3.0; behind = o.1; is = o.2 ∙ ap (λ l. l ++ o.1) o.3.1; good = refl };
}
layer (E.Member a x) s = based s (E.Member a.0 x) a.0 (Sign mark.Dot ▸ One (kind.Word x)) a.1 refl (or_falses (asks eform_is_place a.0)) (λ ts spelt. opened s (E.Member a.0 x) ts spelt)
layer (E.Index a i) s = based s (E.Index a.0 i.0) a.0 (Sign mark.OpenBracket ▸ SpeltExpr i.0 ▸ Sign mark.CloseBracket) a.1 refl (or_falses (asks eform_is_place a.0)) (λ ts spelt. opened s (E.Index a.0 i.0) ts spelt)
layer y s = no_front s (expr_parts FormOpens Opens Any y) refl

pub opens : (e : Expr) → Opens e
opens = expr_law FormOpens Opens Any layer (λ e h. h e.span) (λ n h. tt)

-- A type, read as an expression

-- the tokens spell an expression of level 1
record AsBase (front : List Token) : Type 0 where
  expr : Expr
  spelt : SpeltExpr expr front
  placed : expr_placed expr ≡ true
  low : (place_of expr).level ≤ 1

word_base : (x : List ℕ) (at : Span) → AsBase (token (kind.Word x) at ∷ [])
word_base x at =
    let ts : List Token = token (kind.Word x) at ∷ [] in
    let is = place_is (span_of ts) (E.Word x) (roll-EForm (E.Word x)) refl in
    record {
      expr = node (span_of ts) (roll-EForm (E.Word x));
      spelt = close_spelt SpeltPattern (span_of ts) (E.Word x) (roll-EForm (E.Word x)) ts refl (at, refl) refl;
      placed = ap (λ (p : Place). p.placed) is;
      low = alone_low (span_of ts) (E.Word x) refl;
    }

index_base : (front ys : List Token) (i : Expr) → AsBase front → SpeltLength i ys → expr_placed i ≡ true → AsBase (front ++ ys)
index_base front ys i a h p =
    let s : Span = span_of (front ++ ys) in
    let l : Layer = E.Index a.expr i in
    record {
      expr = node s (roll-EForm l);
      spelt = close_spelt SpeltPattern s l (roll-EForm l) (front ++ ys) refl (front, ys, refl, a.spelt, h) refl;
      placed = ap (λ (q : Place). q.placed) (place_is s l (roll-EForm l) refl) ∙ both (both a.placed (le-leb (place_of a.expr).level 1 a.low)) p;
      low = alone_low s l refl;
    }

lengths_base : (ls : List Expr) (front ys : List Token) → AsBase front → Each SpeltLength ls ys → list_all expr_placed ls ≡ true → AsBase (front ++ ys)
lengths_base [] front ys a h p = subst AsBase (sym (append-nil front) ∙ ap (λ l. front ++ l) (sym h)) a
lengths_base (i ∷ ls) front ys a (us, vs, is, h, more) p =
    let ps = both_true (expr_placed i) (list_all expr_placed ls) p in
    subst AsBase (append_assoc front us vs ∙ ap (λ l. front ++ l) (sym is)) (lengths_base ls (front ++ us) vs (index_base front us i a h ps.0) more ps.1)

-- behind a word a base has ended
word_stops : (x : List ℕ) (s : Span) (ts : List Token) → Stops 1 (token (kind.Word x) s ∷ ts)
unfolding ends_chain ends_base mark_ahead
word_stops x s ts = record { chain = refl; base = refl; uncalled = refl; question = refl }

no_int : (n : ℕ) (s : Span) (l : List Token) → stmts.base_at n (token (kind.Key key.Int) s ∷ l) ≡ None
unfolding stmts.base_at
no_int n s l = ap (λ (o : Option (Deep × List Token)). o >>= λ e. Some (pair e.0.expr e.1)) (int_reads_not (offers true) n s l)

no_bit : (n : ℕ) (s : Span) (l : List Token) → stmts.base_at n (token (kind.Key key.Bit) s ∷ l) ≡ None
unfolding stmts.base_at
no_bit n s l = ap (λ (o : Option (Deep × List Token)). o >>= λ e. Some (pair e.0.expr e.1)) (bit_reads_not (offers true) n s l)

-- Where a base stands that no word follows, no type stands that a word follows.
clash : (b : ℕ) (e : Expr) (ts rest : List Token) → SpeltExpr e ts → expr_placed e ≡ true → (place_of e).level ≤ 1 → Stops 1 rest → word_at rest ≡ None → (ty : TyTree) (r : List Token) → FoundTy b (ts ++ rest) ty r → (y : List ℕ) (r' : List Token) → Stands (kind.Word y) r r' → ⊥
clash b e ts rest h p low stops unworded ty r f y r' w =
    go ty.base f.seen.spelt.1
  where
    reads : (n : ℕ) → expr_depth e ≤ n → stmts.base_at n (f.seen.front ++ r) ≡ Some (pair e rest)
    reads n d = ap (stmts.base_at n) (sym f.seen.split) ∙ base_reads n e ts rest h p d low stops

    both_read : (o : Option (Expr × List Token)) → o ≡ None → o ≡ Some (pair e rest) → ⊥
    both_read o none some = let bad : None ≡ Some (pair e rest) = sym none ∙ some in absurd (cc)

    go : (k : Base) → (SpeltBase k ▸ Each SpeltLength ty.lengths) f.seen.front → ⊥
    go base.Int (us, vs, is, (at, isu), each) =
        both_read (stmts.base_at (expr_depth e) (f.seen.front ++ r))
        (ap (λ l. stmts.base_at (expr_depth e) (l ++ r)) (is ∙ ap (λ l. l ++ vs) isu) ∙ no_int (expr_depth e) at (vs ++ r)) (reads (expr_depth e) (omega arith))
    go base.Bit (us, vs, is, (at, isu), each) =
        both_read (stmts.base_at (expr_depth e) (f.seen.front ++ r))
        (ap (λ l. stmts.base_at (expr_depth e) (l ++ r)) (is ∙ ap (λ l. l ++ vs) isu) ∙ no_bit (expr_depth e) at (vs ++ r)) (reads (expr_depth e) (omega arith))
    go (base.Named x) (us, vs, is, (at, isu), each) =
        let a : AsBase f.seen.front = subst AsBase (ap (λ l. l ++ vs) (sym isu) ∙ sym is) (lengths_base ty.lengths (token (kind.Word x) at ∷ []) vs (word_base x at) each f.placed) in
        let n : ℕ = expr_depth e + expr_depth a.expr in
        let stops_there : Stops 1 r = subst (Stops 1) (sym w.is) (word_stops y w.at r') in
        let other : stmts.base_at n (f.seen.front ++ r) ≡ Some (pair a.expr r) = base_reads n a.expr f.seen.front r a.spelt a.placed (omega arith) a.low stops_there in
        let same = some_pair a.expr e r rest (sym other ∙ reads n (omega arith)) in
        let bad : None ≡ Some (pair y r') = sym unworded ∙ ap word_at (sym same.1 ∙ w.is) ∙ word_here y w.at r' in
        absurd (cc)

never : {A : Type 0} (o : Option A) → Every (λ _. ⊥) o → o ≡ None
never None h = refl
never (Some a) h = absurd (h.each a refl)

-- where a target or a call stands that no word follows, no declaration does
pub declare_not : (role : Role) (b : ℕ) (e : Expr) (ts rest : List Token) → SpeltExpr e ts → expr_placed e ≡ true → (place_of e).level ≤ 1 → Stops 1 rest → word_at rest ≡ None → declare_at role b (ts ++ rest) ≡ None
unfolding declare_at names_at declared_at
declare_not role b e ts rest h p low stops unworded =
    never (declare_at role b (ts ++ rest))
    (every_bind {R = λ _. ⊥} (ty_at b (ts ++ rest)) _ (ty_found b (ts ++ rest))
    (λ ty f. every_bind {Q = λ _. ⊥} {R = λ _. ⊥} (names_at b ty.1) _
    (every_bind {Q = λ _. ⊥} {R = λ _. ⊥} (declared_at b ty.1) _
    (every_bind {R = λ _. ⊥} (inside b) _ (any_inside b)
    (λ c _. every_bind {R = λ _. ⊥} (word_at ty.1) _ (word_stands ty.1) (λ name w. absurd (clash b e ts rest h p low stops unworded ty.0 ty.1 f name.0 name.1 w))))
    (λ d none. absurd none))
    (λ names none. absurd none)))
