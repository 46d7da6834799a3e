-- `difference` meets its contract: the difference of two numbers of 32 bits fits 64 signed bits.
use Rattle.timing.proofs.Difference.{difference_fits, difference_is}
use Rattle.timing.proofs.calls.difference.Goals as goal

pub overflow_sub-result : goal.overflow_sub-result
overflow_sub-result c = difference_fits _ _ c.ranges.a.fits c.ranges.b.fits

pub returns : goal.returns
returns c = difference_is _ _ c.ranges.a.fits c.ranges.b.fits
