-- Lists that are written one after another.
use Rattle.std.proofs.Common.{◌≡◌, ℕ, zero, suc, false, List, [], ◌∷◌, ◌++◌, map, refl, sym, ap, ◌∙◌, append_assoc, append-nil}
use Rattle.std.specs.List.{repeat, flat_map}
use Rattle.sk_prog.specs.declared.stmt.PStmt.{PStmt}
use Rattle.sk_prog.specs.declared.prog.Prog.{Prog}
use Rattle.sk_print.specs.Layout.{each_line, stmt_lines, stmt_layout}

repeat_last : (n : ℕ) (xs : List ℕ) → repeat (suc n) xs ≡ repeat n xs ++ xs
repeat_last zero xs = append-nil xs
repeat_last (suc n) xs = ap (λ ys. xs ++ ys) (repeat_last n xs) ∙ sym (append_assoc xs (repeat n xs) xs)

-- one more copy at the end
pub repeat_more : (n m : ℕ) (xs : List ℕ) → m ≡ suc n → repeat m xs ≡ repeat n xs ++ xs
repeat_more n m xs e = ap (λ k. repeat k xs) e ∙ repeat_last n xs

-- the lines of the statements of a function
pub each_line_of : (prog : Prog) (ss : List PStmt) → each_line false 1 (map (stmt_lines prog) ss) ≡ flat_map (λ s. stmt_layout prog s 1) ss
each_line_of prog [] = refl
each_line_of prog (s ∷ ss) = ap (λ z. stmt_layout prog s 1 ++ z) (each_line_of prog ss)
