-- What a call becomes is an ordinary function, or a copy that is made later.
use Rattle.std.proofs.Common.{◌≡◌, ℕ, zero, suc, ◌+◌, ◌<◌, ◌≤◌, Bool, true, false, List, [], ◌∷◌, length, Some, refl, sym, subst, arith}
use Rattle.std.specs.Prelude.{◌||◌, slice_get, slice_index_or, nat_lt, if◌then◌else◌}
use Rattle.std.proofs.lemmas.Bool.{lt-ltb, ltb-true}
use Rattle.std.proofs.lemmas.Option.{slice_get_within}
use Rattle.sk_base.specs.declared.span.Span.{Span}
use Rattle.sk_base.specs.declared.bounds.Bounds.{Bounds}
use Rattle.sk_prog.specs.declared.prog.Fun.{Fun}
use Rattle.sk_prog.specs.declared.prog.Prog.{Prog}
use Rattle.sk_prog.specs.Fits.{has_fun}
use Rattle.sk_model.specs.Parts.{rank}
use Rattle.sk_model.specs.Expand.{Made, pure, CallWalk, fun_id, is_generator, is_zero, are_ordinary, ordinary_count, copied, stub, one_less, call_of, calls_walk, walk_stmts, walk_funs}
use Rattle.sk_holes_laws.specs.Callees.{is_ahead}
use Rattle.sk_expand_laws.proofs.Copied.{all_stand}
use Rattle.sk_expand_laws.proofs.Ordinary.{function_found, count_is}

pub get_there : {X : Type 0} (xs : List X) (i : ℕ) → i < length xs → (x : X) × (slice_get xs i ≡ Some x)
get_there [] i h = absurd (omega (arith, h))
get_there (x ∷ xs) zero h = (x, refl)
get_there (x ∷ xs) (suc i) h = get_there xs i (omega (arith, h))

or_left : (a b : Bool) → a ≡ true → (a || b) ≡ true
or_left true b h = refl
or_left false b h = cc

or_right : (a b : Bool) → b ≡ true → (a || b) ≡ true
or_right true b h = refl
or_right false b h = h

module _ (prog : Prog) (bounds : Bounds) where
  abbrev made : Made (List Fun)
  made = walk_funs bounds prog.funs prog.funs 0

  abbrev count : ℕ
  count = ordinary_count prog.funs

  -- an ordinary function has one of the first numbers
  pub rank_below : (f : ℕ) (fun : Fun) → slice_get prog.funs f ≡ Some fun → is_generator fun.kind ≡ false → rank (are_ordinary prog.funs) f < count
  rank_below f fun at is =
      let r = function_found bounds prog.funs made.copies prog.funs 0 f fun (all_stand made.copies) at is in
      subst (λ n. rank (are_ordinary prog.funs) f < n) (count_is bounds prog.funs made.copies prog.funs 0) (slice_get_within made.made (rank (are_ordinary prog.funs) f) r.now r.there)

  module _ (n begin : ℕ) (ahead : n < count + begin) where
    called : (inner : CallWalk) (left : List ℕ) (s : Span) (f k : ℕ) (fun : Fun) → slice_get prog.funs f ≡ Some fun → begin ≤ k → is_ahead count n (call_of bounds prog.funs inner left s f (Some fun) k).made ≡ true
    called inner left s f k fun at le = by_kind (is_generator fun.kind) refl
      where
        copy : is_ahead count n (count + k) ≡ true
        copy = or_right (nat_lt (count + k) count) (nat_lt n (count + k)) (lt-ltb n (count + k) (omega (arith, ahead, le)))

        by_zero : (b : Bool) → is_ahead count n ((if b then copied bounds prog.funs fun (pure (stub s)) else copied bounds prog.funs fun (walk_stmts bounds inner fun.body)) k).made ≡ true
        by_zero true = copy
        by_zero false = copy

        by_kind : (b : Bool) → is_generator fun.kind ≡ b → is_ahead count n ((if b then (if is_zero (slice_index_or left f 0) then copied bounds prog.funs fun (pure (stub s)) else copied bounds prog.funs fun (walk_stmts bounds inner fun.body)) else pure (rank (are_ordinary prog.funs) f)) k).made ≡ true
        by_kind true is = by_zero (is_zero (slice_index_or left f 0))
        by_kind false is =
            let r = rank (are_ordinary prog.funs) f in
            or_left (nat_lt r count) (nat_lt n r) (lt-ltb r count (rank_below f fun at is))

    any_called : (inner : CallWalk) (left : List ℕ) (s : Span) (f k : ℕ) → begin ≤ k → has_fun prog (fun_id f) ≡ true → is_ahead count n (call_of bounds prog.funs inner left s f (slice_get prog.funs f) k).made ≡ true
    any_called inner left s f k le h =
        let x = get_there prog.funs f (ltb-true f (length prog.funs) h) in
        subst (λ o. is_ahead count n (call_of bounds prog.funs inner left s f o k).made ≡ true) (sym x.1) (called inner left s f k x.0 x.1 le)

    pub calls_ahead : (fuel : ℕ) (left : List ℕ) (s : Span) (f k : ℕ) → begin ≤ k → has_fun prog (fun_id f) ≡ true → is_ahead count n (calls_walk bounds prog.funs fuel left s f k).made ≡ true
    unfolding calls_walk
    calls_ahead zero left s f k le h = any_called (λ inner_span g. pure g) left s f k le h
    calls_ahead (suc m) left s f k le h = any_called (calls_walk bounds prog.funs m (one_less left f)) left s f k le h
