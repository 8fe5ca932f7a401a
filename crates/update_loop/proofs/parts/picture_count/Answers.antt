-- No picture of the panel, or its black dots. Assumes nothing.
use Rattle.update_loop.proofs.Pictures.{not-counted, counted}
use Rattle.update_loop.proofs.parts.picture_count.Goals as goal

pub returns-in-Some : goal.returns-in-Some
returns-in-Some c = counted c.args.panel c.args.picture.now c.summary_of.result c.in-Some.shape c.in-Some.ensures c.summary_of.ensures

pub returns-in-None : goal.returns-in-None
returns-in-None c = not-counted c.args.panel c.args.picture.now c.in-None.ensures
