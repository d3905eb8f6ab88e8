-- On an `unfolding` line: a case computes with masks. Assumes nothing.
use Rattle.masks.specs.Mask.{mask}

unfoldable pub masks_compute : Unit {0}
unfolding mask
masks_compute = tt
