-- Rows of statements: a work tracks each of them, also of a part of them, or in another order.
use Rattle.std.proofs.Common.{ℕ, zero, suc, ◌-◌, List, [], ◌∷◌, ◌++◌, map, length, take, drop}
use Rattle.std.specs.Prelude.{insert}
use Rattle.sk_prog.specs.declared.stmt.PStmt.{PStmt}
use Rattle.sk_model.specs.Fill.{arrange, digit}
use Rattle.sk_adt_tags.specs.Tags.{Work, all_of}
use Rattle.sk_adt_tag_laws.proofs.Follow.{Tracks, EachTracks, all_later}

module _ (after : PStmt → Work) where
  abbrev pub Row : Work → List PStmt → Type 0
  Row a ps = EachTracks a (map after ps)

  pub later_row : (a : Work) (olds : List Work) (ps : List PStmt) → Row (all_of olds) ps → Row (all_of (a ∷ olds)) ps
  later_row a olds [] h = tt
  later_row a olds (p ∷ ps) h = (all_later a olds (after p) h.0, later_row a olds ps h.1)

  pub append_row : (a : Work) (ps qs : List PStmt) → Row a ps → Row a qs → Row a (ps ++ qs)
  append_row a [] qs h k = k
  append_row a (p ∷ ps) qs h k = (h.0, append_row a ps qs h.1 k)

  take_row : (a : Work) (n : ℕ) (ps : List PStmt) → Row a ps → Row a (take n ps)
  take_row a zero ps h = tt
  take_row a (suc n) [] h = tt
  take_row a (suc n) (p ∷ ps) h = (h.0, take_row a n ps h.1)

  drop_row : (a : Work) (n : ℕ) (ps : List PStmt) → Row a ps → Row a (drop n ps)
  drop_row a zero ps h = h
  drop_row a (suc n) [] h = tt
  drop_row a (suc n) (p ∷ ps) h = drop_row a n ps h.1

  insert_row : (a : Work) (ps : List PStmt) (n : ℕ) (p : PStmt) → Row a ps → Tracks a (after p) → Row a (insert ps n p)
  insert_row a ps n p h k = append_row a (take n ps) (p ∷ drop n ps) (take_row a n ps h) (k, drop_row a n ps h)

  pub arrange_row : (values : List ℕ) (a : Work) (i : ℕ) (ps qs : List PStmt) → Row a ps → Row a qs → Row a (arrange values i ps qs)
  arrange_row values a i ps [] h k = h
  arrange_row values a i ps (q ∷ qs) h k = arrange_row values a i (insert ps (length ps - digit values i (length ps)) q) qs (insert_row a ps (length ps - digit values i (length ps)) q h k.0) k.1
