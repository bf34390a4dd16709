use Rattle.std.specs.Prelude.{[], codes}
use Rattle.std.proofs.Common.{refl}
use Rattle.sk_check_text.proofs.FirstMark.{found_splits, whole_splits}
use Rattle.sk_check_text.proofs.examples.parts_of_inputs.Goals as goal

pub returns : goal.returns
returns c = record {
  one = found_splits (codes "a\n//%%\nb") 2 (codes "b") refl;
  two = found_splits (codes "//%%\na\n//%%\nb") 0 (codes "a\n//%%\nb") refl;
  last = found_splits (codes "a\n//%%") 2 [] refl;
  none = whole_splits (codes "a//%%\n//%% \n") refl;
}
