-- One piece more.
use Rattle.std.proofs.Common.{◌≡◌, ℕ, zero, suc, ◌-◌, ◌<◌, List, [], ◌∷◌, ◌++◌, refl, sym, ap, subst, ◌∙◌, arith}
use Rattle.std.specs.Prelude.{Result, Ok, Err}
use Rattle.sk_tree.specs.declared.token.Token.{Token}
use Rattle.sk_adt.specs.declared.form.Piece.{Piece}
use Rattle.sk_adt.specs.Forms.{Found, with_rest, piece_at, with_piece, pieces_from}

pub pieces_none : (left : ℕ) (so_far : List Piece) (t : Token) (ts : List Token) → left ≡ 0 → pieces_from left so_far (t ∷ ts) ≡ Err t.span.from
unfolding pieces_from
pieces_none zero so_far t ts h = refl
pieces_none (suc n) so_far t ts h = absurd (omega arith)

pub pieces_more : (left : ℕ) (so_far : List Piece) (t : Token) (ts : List Token) → 0 < left → pieces_from left so_far (t ∷ ts) ≡ with_piece (pieces_from (left - 1)) so_far (piece_at (pieces_from (left - 1) []) t ts).0 (piece_at (pieces_from (left - 1) []) t ts).1
unfolding pieces_from
pieces_more zero so_far t ts h = absurd (omega arith)
pieces_more (suc n) so_far t ts h =
    let e : n ≡ suc n - 1 = omega arith in
    let P : ℕ → Type 0 = λ m. with_piece (pieces_from n) so_far (piece_at (pieces_from n []) t ts).0 (piece_at (pieces_from n []) t ts).1 ≡ with_piece (pieces_from m) so_far (piece_at (pieces_from m []) t ts).0 (piece_at (pieces_from m []) t ts).1 in
    subst P e refl

pub pieces_step : (left : ℕ) (so_far : List Piece) (t : Token) (ts : List Token) (p : Piece) (rest : List Token) → 0 < left → with_rest (Ok p) rest ≡ piece_at (pieces_from (left - 1) []) t ts → pieces_from left so_far (t ∷ ts) ≡ pieces_from (left - 1) (so_far ++ p ∷ []) rest
pieces_step left so_far t ts p rest h e = pieces_more left so_far t ts h ∙ ap (λ (q : Found Piece × List Token). with_piece (pieces_from (left - 1)) so_far q.0 q.1) (sym e)

pub pieces_stop : (left : ℕ) (so_far : List Piece) (t : Token) (ts : List Token) (at : ℕ) (rest : List Token) → 0 < left → with_rest (Err at) rest ≡ piece_at (pieces_from (left - 1) []) t ts → pieces_from left so_far (t ∷ ts) ≡ Err at
pieces_stop left so_far t ts at rest h e = pieces_more left so_far t ts h ∙ ap (λ (q : Found Piece × List Token). with_piece (pieces_from (left - 1)) so_far q.0 q.1) (sym e)
