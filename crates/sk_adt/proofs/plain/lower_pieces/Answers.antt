use Rattle.std.proofs.Common.{◌≡◌, ◌∙◌, List, ◌++◌, Option, None, Ok, sym, ap}
use Rattle.sk_adt.specs.declared.algebraic.AdtFault.{AdtFault}
use Rattle.sk_adt.specs.declared.algebraic.Lowered.{Lowered}
use Rattle.sk_adt.specs.declared.form.Piece.{Piece}
use Rattle.sk_adt.specs.declared.form.TypeWords.{TypeWords}
use Rattle.sk_adt.specs.declared.form.Word.{Word}
use Rattle.sk_adt.specs.Words.{types_in, switches_in}
use Rattle.sk_adt.specs.Faults.{fault_of}
use Rattle.sk_adt.specs.Lowering.{plain_form, or_plain}
use Rattle.sk_adt.proofs.plain.lower_pieces.Goals as goal

-- where there is no fault, the plain form is the answer
agreed : (types again : List TypeWords) (switches : List (List Word)) (pieces : List Piece) (o : Option AdtFault) (l : Lowered) → types ≡ types_in pieces → switches ≡ switches_in pieces → o ≡ fault_of types switches → o ≡ None → again ≡ types_in pieces → l ≡ plain_form again pieces → or_plain (types_in pieces) pieces (fault_of (types_in pieces) (switches_in pieces)) ≡ Ok l
agreed types again switches pieces o l et es eo en ea el =
    let none : fault_of (types_in pieces) (switches_in pieces) ≡ None = sym (eo ∙ ap (λ t. fault_of t switches) et ∙ ap (λ s. fault_of (types_in pieces) s) es) ∙ en in
    ap (or_plain (types_in pieces) pieces) none ∙ ap (λ m. Ok m) (sym (el ∙ ap (λ t. plain_form t pieces) ea))

pub returns : goal.returns
returns c =
    let types : c.list_pieces.new.types ≡ types_in c.args.pieces.now = c.in_ok-list_pieces.ensures.types ∙ ap (λ t. t ++ types_in c.args.pieces.now) c.new-types.ensures in
    let switches : c.list_pieces.new.switches ≡ switches_in c.args.pieces.now = c.in_ok-list_pieces.ensures.switches ∙ ap (λ s. s ++ switches_in c.args.pieces.now) c.new-switches.ensures in
    let et : c.as_slice-2.result.now ≡ types_in c.args.pieces.now = cc in
    let es : c.as_slice-3.result.now ≡ switches_in c.args.pieces.now = cc in
    let en : c.in_ok-fault.field-0 ≡ None = c.in-None.is in
    let ea : c.as_slice-in-None.result.now ≡ types_in c.args.pieces.now = cc in
    agreed c.as_slice-2.result.now c.as_slice-in-None.result.now c.as_slice-3.result.now c.args.pieces.now c.in_ok-fault.field-0 c.in_ok-lowered-in-None.lowered et es c.in_ok-fault.ensures en ea c.in_ok-lowered-in-None.ensures
