use Rattle.std.proofs.Common.{sym, subst}
use Rattle.sk_arr.proofs.Standing.{bit_there}
use Rattle.sk_sym_state.specs.Branching.{IsBit}
use Rattle.sk_sym_state.specs.Meaning.{DoesOn}
use Rattle.sk_sym_state.specs.Seen.{IsWorth}
use Rattle.sk_sym_walk.specs.Parts.{as_bit}
use Rattle.sk_sym_walk.proofs.Sequences.{ok_more}
use Rattle.sk_sym_walk.proofs.Conditions.{int_fails, reference_fails, array_fails, bit_does, fails_on}
use Rattle.sk_sym_walk.proofs.failing.bit_of.Goals as goal

pub returns-in-Bit-clause-there : goal.returns-in-Bit-clause-there
returns-in-Bit-clause-there c = bit_there c.requires.v c.in-Bit.is

pub returns-in-Bit-clause-does : goal.returns-in-Bit-clause-does
returns-in-Bit-clause-does c = subst (λ r. DoesOn c.args.setting.now c.args.dag.now c.args.dag.now c.args.state.now c.args.state.now (λ g e. IsWorth g e c.args.state.now.heap r) (IsBit c.in-Bit.c) (λ e. as_bit c.args.span)) (sym c.in-Bit.is) (bit_does c.args.span c.requires.stands)

pub returns-in-Int-clause-does : goal.returns-in-Int-clause-does
returns-in-Int-clause-does c = ok_more c.fail_with_bit.result (λ b h. fails_on c.args.span h (λ g e v at w. int_fails c.args.span at c.in-Int.field-0 (subst (λ r. IsWorth g e c.args.state.now.heap r v) c.in-Int.is w))) c.fail_with_bit.ensures.executes

pub returns-in-Reference-clause-does : goal.returns-in-Reference-clause-does
returns-in-Reference-clause-does c = ok_more c.fail_with_bit-in-Reference.result (λ b h. fails_on c.args.span h (λ g e v at w. reference_fails c.args.span at c.in-Reference.field-0 (subst (λ r. IsWorth g e c.args.state.now.heap r v) c.in-Reference.is w))) c.fail_with_bit-in-Reference.ensures.executes

pub returns-in-Array-clause-does : goal.returns-in-Array-clause-does
returns-in-Array-clause-does c = ok_more c.fail_with_bit-in-Array.result (λ b h. fails_on c.args.span h (λ g e v at w. array_fails c.args.span at c.in-Array.field-0 (subst (λ r. IsWorth g e c.args.state.now.heap r v) c.in-Array.is w))) c.fail_with_bit-in-Array.ensures.executes
