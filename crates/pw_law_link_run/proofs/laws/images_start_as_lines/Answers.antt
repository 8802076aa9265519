use Rattle.pw_law_link_run.proofs.ImageStart.{image_starts}
use Rattle.pw_law_link_run.proofs.laws.images_start_as_lines.Goals as goal

pub returns : goal.returns
returns c = image_starts
