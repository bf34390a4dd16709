-- Shapes that read scalars of the input.
use Rattle.std.proofs.Common.{◌≡◌, ℕ, zero, suc, ◌+◌, ◌-◌, ◌*◌, ◌^◌, ◌<◌, ◌≤◌, All, Bool, true, false, ℤ, pos, List, [], ◌∷◌, ◌++◌, map, length, take, drop, replicate, get_or, refl, sym, ap, subst, ◌∙◌, arith, not, append_assoc, length-append}
use Rattle.std.specs.Prelude.{◌==◌}
use Rattle.std.specs.Ordering.{int_eq}
use Rattle.std.proofs.lemmas.Int.{ints}
use Rattle.std.proofs.Math.Pow.{pow_mono}
use Rattle.std.proofs.lemmas.List.{take_more, take_all, append-nil, drop-drop, length-replicate, replicate-append-replicate, length-take-le}
use Rattle.std.proofs.lemmas.List.Elements.{All-nil}
use Rattle.sk_base.specs.Word.{wrapped, half, IsWord}
use Rattle.sk_base.proofs.Words.{wrapped-word}
use Rattle.sk_dag.specs.declared.env.Env.{Env}
use Rattle.sk_dag.specs.declared.node.BoolId.{BoolId}
use Rattle.sk_dag.specs.declared.node.WordId.{WordId}
use Rattle.sk_dag.specs.declared.shape.Shape.{Shape}
use Rattle.sk_dag.specs.declared.shape.Shape.TheVariants as shape
use Rattle.sk_dag.specs.Graph.{Graph, Grows, HasBool, HasWord}
use Rattle.sk_dag.specs.Eval.{bool_value, word_value, entry, Keeps}
use Rattle.sk_arr.specs.Answers.{shapes_value}
use Rattle.sk_dag.specs.EvalShape.{shape_value}
use Rattle.sk_arr.specs.Shapes.{Stands, AllStand}
use Rattle.sk_arr.proofs.Makers.{Keeps-refl}
use Rattle.sk_arr.proofs.Standing.{Stands-keeps, AllStand-keeps, bit_stands, int_stands, array_stands}
use Rattle.sk_arr.proofs.Values.{value_bit, value_int, map_push, all_push, stand_none, stand_push}
use Rattle.sk_prog.specs.declared.value.Value.{Value}
use Rattle.sk_prog.specs.declared.value.Value.TheVariants as value
use Rattle.sk_prog.specs.declared.prog.ParamDef.{ParamDef}
use Rattle.sk_prog.specs.declared.ids.StructId.{StructId}
use Rattle.sk_prog.specs.declared.ty.Elem.{Elem}
use Rattle.sk_prog.specs.declared.ty.Elem.TheVariants as elem
use Rattle.sk_prog.specs.declared.ty.Ty.{Ty}
use Rattle.sk_prog.specs.declared.ty.Ty.TheVariants as ty
use Rattle.sk_heap_laws.specs.Values.{place_of, holds_in, value_of, value_in, IsLive}
use Rattle.sk_heap_laws.proofs.Parts.{of_bit, of_int, live_bit, live_int}
use Rattle.sk_oblig_queries.specs.Widths.{elem_width, elem_of, numbers_of, ty_widths, params_widths}
use Rattle.sk_oblig_queries.specs.Said.{first_of, elem_said, row_said, rows_said, value_said, args_said}
use Rattle.sk_sym_state.specs.Seen.{IsWorth, AreWorth}
use Rattle.sk_oblig_laws.specs.Laws.{HasNumbers, StartsBelow}
use Rattle.sk_oblig_laws.proofs.Ranges.{starts_split, has_later}
use Rattle.sk_oblig_arguments.specs.Constants.{IsConstant}
use Rattle.sk_oblig_arguments.specs.Arguments.{Reads, AllRead, ReadsElem, ReadsValue, AreArguments, count_of}
use Rattle.sk_oblig_arguments.proofs.Shaping.{array_worth}

-- Elements

first_below : (w : ℕ) (ns : List ℕ) → StartsBelow (w ∷ []) ns → first_of ns < 2 ^ w
first_below w [] h = absurd h
first_below w (n ∷ ns) h = h.0

first_entry : {e : Env} {first : ℕ} (ns : List ℕ) → HasNumbers e first ns → entry e.input first ≡ pos (first_of ns)
first_entry {e} {first} ns h = let at : first ≡ first + 0 = omega arith in ap (entry e.input) at ∙ h.each 0

small_word : (w inbits n : ℕ) → inbits ≤ w - 1 → n < 2 ^ inbits → wrapped w (pos n) ≡ pos n
small_word w inbits n h l =
    let up : 2 ^ inbits ≤ half w = pow_mono {i = inbits} {j = w - 1} h in
    wrapped-word w (pos n) (record { low = omega (arith, ints); high = omega (arith, ints, l, up) })

pub int_reads : {d0 d1 : Graph} (id : WordId) (first : ℕ) → Keeps d0 d1 → HasWord d1.nodes id → ((g : Graph) → Grows d1 g → (e : Env) → word_value g e id ≡ wrapped d0.bits (entry e.input first)) → ReadsElem d1 elem.Int first (shape.Int id)
int_reads {d0} {d1} id first k there is = record {
  stands = int_stands d1 id there;
  worth = λ g e ns inbits m few has below.
      let bits : d0.bits ≡ g.bits = sym ((k.later g m).bits) in
      let at : word_value g e id ≡ pos (first_of ns) = is g m e ∙ ap (λ w. wrapped w (entry e.input first)) bits ∙ ap (wrapped g.bits) (first_entry ns has) ∙ small_word g.bits inbits (first_of ns) few (first_below inbits ns below) in
      record {
        value = ap (value_of (place_of (holds_in g e []))) (value_int g e id) ∙ of_int (place_of (holds_in g e [])) (word_value g e id) ∙ ap value.Int at;
        live = subst (IsLive (holds_in g e [])) (sym (value_int g e id)) (live_int (holds_in g e []) (word_value g e id));
      };
}

one_or_none : (n : ℕ) → n < 2 ^ 1 → not (int_eq (pos n) (pos 0)) ≡ (n == 1)
one_or_none zero h = refl
one_or_none (suc zero) h = refl
one_or_none (suc (suc n)) h = absurd (omega (arith, h))

pub bit_reads : {d1 : Graph} (id : BoolId) (first : ℕ) → HasBool d1.nodes id → ((g : Graph) → Grows d1 g → (e : Env) → bool_value g e id ≡ not (int_eq (entry e.input first) (pos 0))) → ReadsElem d1 elem.Bit first (shape.Bit id)
bit_reads {d1} id first there is = record {
  stands = bit_stands d1 id there;
  worth = λ g e ns inbits m few has below.
      let at : bool_value g e id ≡ (first_of ns == 1) = is g m e ∙ ap (λ z. not (int_eq z (pos 0))) (first_entry ns has) ∙ one_or_none (first_of ns) (first_below 1 ns below) in
      record {
        value = ap (value_of (place_of (holds_in g e []))) (value_bit g e id) ∙ of_bit (place_of (holds_in g e [])) (bool_value g e id) ∙ ap value.Bit at;
        live = subst (IsLive (holds_in g e [])) (sym (value_bit g e id)) (live_bit (holds_in g e []) (bool_value g e id));
      };
}

pub null_reads : {d : Graph} (s : StructId) (first : ℕ) (r : Shape) → IsConstant d value.Null r → ReadsElem d (elem.Reference s) first r
null_reads {d} s first r is = record { stands = is.stands; worth = λ g e ns inbits m few has below. is.worth g e m }

-- Lists

pub none_read : (d : Graph) (first : ℕ) (widths : ℕ → List ℕ) (said : List ℕ → List Value) → ((ns : List ℕ) → said ns ≡ []) → AllRead d widths said first []
none_read d first widths said none = record {
  stand = stand_none d;
  worth = λ g e ns inbits m few has below. record { value = sym (none ns); live = record { each = All-nil (IsLive (holds_in g e [])) } };
}

more_read : {a b : Graph} {made longer : List Shape} {r : Shape} {first at : ℕ} (before one all : ℕ → List ℕ) (said whole : List ℕ → List Value) (last : List ℕ → Value) (k : ℕ)
    → Keeps a b → AllRead a before said first made → Reads b one last at r → longer ≡ made ++ r ∷ [] → at ≡ first + k
    → ((inbits : ℕ) → length (before inbits) ≡ k) → ((inbits : ℕ) → all inbits ≡ before inbits ++ one inbits) → ((ns : List ℕ) → whole ns ≡ said ns ++ last (drop k ns) ∷ [])
    → AllRead b all whole first longer
more_read {a} {b} {made} {longer} {r} {first} {at} before one all said whole last k keeps are reads is place long widths says = subst (AllRead b all whole first) (sym is) (record {
  stand = stand_push made r (AllStand-keeps keeps are.stand) reads.stands;
  worth = λ g e ns inbits m few has below.
      let s = starts_split (before inbits) (one inbits) ns (subst (λ (ws : List ℕ). StartsBelow ws ns) (widths inbits) below) in
      let behind : StartsBelow (one inbits) (drop k ns) = subst (λ c. StartsBelow (one inbits) (drop c ns)) (long inbits) s.1 in
      let front = are.worth g e ns inbits (keeps.later g m) few has s.0 in
      let back = reads.worth g e (drop k ns) inbits m few (subst (λ c. HasNumbers e c (drop k ns)) (sym place) (has_later k has)) behind in
      record {
        value = map_push (value_in g e []) made r ∙ ap (λ vs. vs ++ value_in g e [] r ∷ []) front.value ∙ ap (λ x. said ns ++ x ∷ []) back.value ∙ sym (says ns);
        live = record { each = subst (λ ss. All (IsLive (holds_in g e [])) ss) (sym (map_push (shape_value g e) made r)) (all_push (IsLive (holds_in g e [])) (shapes_value g e made) (shape_value g e r) front.live.each back.live) };
      };
})

-- Rows

row_push : (e : Elem) (k : ℕ) (ns : List ℕ) → row_said e (k + 1) ns ≡ row_said e k ns ++ elem_said e (first_of (drop k ns)) ∷ []
row_push e zero ns = refl
row_push e (suc k) ns =
    let next : suc k + 1 ≡ suc (k + 1) = omega arith in
    ap (λ j. row_said e j ns) next
    ∙ ap (λ vs. elem_said e (first_of ns) ∷ vs) (row_push e k (drop 1 ns))
    ∙ ap (λ (ms : List ℕ). elem_said e (first_of ns) ∷ (row_said e k (drop 1 ns) ++ elem_said e (first_of ms) ∷ [])) (drop-drop k 1 ns ∙ ap (λ c. drop c ns) (let c : 1 + k ≡ suc k = omega arith in c))

pub row_none : (d : Graph) (e : Elem) (first : ℕ) → AllRead d (λ inbits. replicate 0 (elem_width inbits e)) (row_said e 0) first []
row_none d e first = none_read d first (λ inbits. replicate 0 (elem_width inbits e)) (row_said e 0) (λ ns. refl)

pub row_more : {a b : Graph} {made longer : List Shape} {r : Shape} {first at : ℕ} (e : Elem) (k : ℕ) → Keeps a b → AllRead a (λ inbits. replicate k (elem_width inbits e)) (row_said e k) first made → ReadsElem b e at r → longer ≡ made ++ r ∷ [] → at ≡ first + k → AllRead b (λ inbits. replicate (k + 1) (elem_width inbits e)) (row_said e (k + 1)) first longer
row_more e k keeps are reads is place =
    more_read (λ inbits. replicate k (elem_width inbits e)) (λ inbits. elem_width inbits e ∷ []) (λ inbits. replicate (k + 1) (elem_width inbits e)) (row_said e k) (row_said e (k + 1)) (λ ns. elem_said e (first_of ns)) k
    keeps are reads is place (λ inbits. length-replicate k (elem_width inbits e)) (λ inbits. sym (replicate-append-replicate k 1 (elem_width inbits e))) (row_push e k)

pub row_value : {d : Graph} {made : List Shape} {first : ℕ} (e : Elem) (k : ℕ) → AllRead d (λ inbits. replicate k (elem_width inbits e)) (row_said e k) first made → ReadsValue d (ty.Array e k) first (shape.Array made)
row_value {d} {made} e k are = record { stands = array_stands d made are.stand; worth = λ g env ns inbits m few has below. array_worth (are.worth g env ns inbits m few has below) }

-- Arrays of rows

rows_push : (e : Elem) (n k : ℕ) (ns : List ℕ) → rows_said e n (k + 1) ns ≡ rows_said e n k ns ++ value.Array (row_said e n (drop (n * k) ns)) ∷ []
rows_push e n zero ns =
    let none : n * 0 ≡ 0 = omega arith in
    ap (λ c. value.Array (row_said e n (drop c ns)) ∷ []) (sym none)
rows_push e n (suc k) ns =
    let more : n + n * k ≡ n * suc k = omega arith in
    let next : suc k + 1 ≡ suc (k + 1) = omega arith in
    ap (λ j. rows_said e n j ns) next
    ∙ ap (λ vs. value.Array (row_said e n ns) ∷ vs) (rows_push e n k (drop n ns))
    ∙ ap (λ (ms : List ℕ). value.Array (row_said e n ns) ∷ (rows_said e n k (drop n ns) ++ value.Array (row_said e n ms) ∷ [])) (drop-drop (n * k) n ns ∙ ap (λ c. drop c ns) more)

pub rows_none : (d : Graph) (e : Elem) (n first : ℕ) → AllRead d (λ inbits. replicate (n * 0) (elem_width inbits e)) (rows_said e n 0) first []
rows_none d e n first = none_read d first (λ inbits. replicate (n * 0) (elem_width inbits e)) (rows_said e n 0) (λ ns. refl)

pub rows_more : {a b : Graph} {made longer : List Shape} {row : List Shape} {first at : ℕ} (e : Elem) (n k : ℕ) → Keeps a b → AllRead a (λ inbits. replicate (n * k) (elem_width inbits e)) (rows_said e n k) first made → AllRead b (λ inbits. replicate n (elem_width inbits e)) (row_said e n) at row → longer ≡ made ++ shape.Array row ∷ [] → at ≡ first + n * k → AllRead b (λ inbits. replicate (n * (k + 1)) (elem_width inbits e)) (rows_said e n (k + 1)) first longer
rows_more e n k keeps are reads is place =
    let more : n * k + n ≡ n * (k + 1) = omega arith in
    more_read (λ inbits. replicate (n * k) (elem_width inbits e)) (λ inbits. replicate n (elem_width inbits e)) (λ inbits. replicate (n * (k + 1)) (elem_width inbits e)) (rows_said e n k) (rows_said e n (k + 1)) (λ ns. value.Array (row_said e n ns)) (n * k)
    keeps are (row_value e n reads) is place (λ inbits. length-replicate (n * k) (elem_width inbits e)) (λ inbits. sym (replicate-append-replicate (n * k) n (elem_width inbits e) ∙ ap (λ c. replicate c (elem_width inbits e)) more)) (rows_push e n k)

pub rows_value : {d : Graph} {made : List Shape} {first : ℕ} (e : Elem) (n m : ℕ) → AllRead d (λ inbits. replicate (n * m) (elem_width inbits e)) (rows_said e n m) first made → ReadsValue d (ty.Grid e n m) first (shape.Array made)
rows_value {d} {made} e n m are = record { stands = array_stands d made are.stand; worth = λ g env ns inbits h few has below. array_worth (are.worth g env ns inbits h few has below) }

-- Arguments

count_push : (ps : List ParamDef) (p : ParamDef) → count_of (ps ++ p ∷ []) ≡ count_of ps + numbers_of p.ty
count_push [] p = omega arith
count_push (q ∷ ps) p = let e = count_push ps p in omega (arith, e)

widths_count : (inbits : ℕ) (ps : List ParamDef) → length (params_widths inbits ps) ≡ count_of ps
widths_count inbits [] = refl
widths_count inbits (p ∷ ps) =
    length-append (ty_widths inbits p.ty) (params_widths inbits ps)
    ∙ ap (λ c. c + length (params_widths inbits ps)) (length-replicate (numbers_of p.ty) (elem_width inbits (elem_of p.ty)))
    ∙ ap (λ c. numbers_of p.ty + c) (widths_count inbits ps)

widths_push : (inbits : ℕ) (ps : List ParamDef) (p : ParamDef) → params_widths inbits (ps ++ p ∷ []) ≡ params_widths inbits ps ++ ty_widths inbits p.ty
widths_push inbits [] p = append-nil (ty_widths inbits p.ty)
widths_push inbits (q ∷ ps) p = ap (λ ws. ty_widths inbits q.ty ++ ws) (widths_push inbits ps p) ∙ sym (append_assoc (ty_widths inbits q.ty) (params_widths inbits ps) (ty_widths inbits p.ty))

args_push : (ps : List ParamDef) (p : ParamDef) (ns : List ℕ) → args_said (ps ++ p ∷ []) ns ≡ args_said ps ns ++ value_said p.ty (drop (count_of ps) ns) ∷ []
args_push [] p ns = refl
args_push (q ∷ ps) p ns =
    ap (λ vs. value_said q.ty ns ∷ vs) (args_push ps p (drop (numbers_of q.ty) ns))
    ∙ ap (λ (ms : List ℕ). value_said q.ty ns ∷ (args_said ps (drop (numbers_of q.ty) ns) ++ value_said p.ty ms ∷ [])) (drop-drop (count_of ps) (numbers_of q.ty) ns)

pub args_none : (d : Graph) (first : ℕ) → AreArguments d [] first []
args_none d first = none_read d first (λ inbits. params_widths inbits []) (args_said []) (λ ns. refl)

pub args_more : {a b : Graph} {made longer : List Shape} {r : Shape} {first at : ℕ} (ps : List ParamDef) (i : ℕ) (p : ParamDef) → i < length ps → p ≡ get_or ps i p → Keeps a b → AreArguments a (take i ps) first made → ReadsValue b p.ty at r → longer ≡ made ++ r ∷ [] → at ≡ first + count_of (take i ps) → AreArguments b (take (i + 1) ps) first longer
args_more {a} {b} {made} {longer} {r} {first} {at} ps i p l here keeps are reads is place =
    let more : take (i + 1) ps ≡ take i ps ++ p ∷ [] = take_more ps i p l ∙ ap (λ x. take i ps ++ x ∷ []) (sym here) in
    subst (λ (qs : List ParamDef). AreArguments b qs first longer) (sym more)
    (more_read (λ inbits. params_widths inbits (take i ps)) (λ inbits. ty_widths inbits p.ty) (λ inbits. params_widths inbits (take i ps ++ p ∷ [])) (args_said (take i ps)) (args_said (take i ps ++ p ∷ [])) (value_said p.ty) (count_of (take i ps))
    keeps are reads is place (λ inbits. widths_count inbits (take i ps)) (λ inbits. widths_push inbits (take i ps) p) (args_push (take i ps) p))

pub count_more : (ps : List ParamDef) (i : ℕ) (p : ParamDef) (first at next : ℕ) → i < length ps → p ≡ get_or ps i p → at ≡ first + count_of (take i ps) → next ≡ at + numbers_of p.ty → next ≡ first + count_of (take (i + 1) ps)
count_more ps i p first at next l here before is =
    let more : take (i + 1) ps ≡ take i ps ++ p ∷ [] = take_more ps i p l ∙ ap (λ x. take i ps ++ x ∷ []) (sym here) in
    let e : count_of (take (i + 1) ps) ≡ count_of (take i ps) + numbers_of p.ty = ap count_of more ∙ count_push (take i ps) p in
    omega (arith, before, is, e)

pub args_all : {d : Graph} {made : List Shape} {first : ℕ} (ps : List ParamDef) (i : ℕ) → length ps ≤ i → AreArguments d (take i ps) first made → AreArguments d ps first made
args_all {d} {made} {first} ps i h are = subst (λ (qs : List ParamDef). AreArguments d qs first made) (take_all i ps h) are

pub ruleset rows = (row_none, Keeps-refl)

pub ruleset grids = (rows_none, Keeps-refl)

pub ruleset several = (args_none, args_more, args_all, count_more, Keeps-refl)
