use Rattle.label_text.proofs.Values.{told}
use Rattle.label_text.proofs.decoding.value.Goals as goal

pub returns : goal.returns
returns c = told c.args.c c.ranges.c.fits
