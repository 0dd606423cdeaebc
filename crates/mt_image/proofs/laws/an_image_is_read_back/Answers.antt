use Rattle.mt_image.proofs.ReadBack.{image_read, copy_read, map_read}
use Rattle.mt_image.proofs.Rewritten.{read_is_good, read_is_image}
use Rattle.mt_image.proofs.laws.an_image_is_read_back.Goals as goal

pub returns-clause-read : goal.returns-clause-read
returns-clause-read c = image_read

pub returns-clause-copied : goal.returns-clause-copied
returns-clause-copied c = copy_read

pub returns-clause-mapped : goal.returns-clause-mapped
returns-clause-mapped c = map_read

pub returns-clause-good : goal.returns-clause-good
returns-clause-good c = read_is_good

pub returns-clause-written : goal.returns-clause-written
returns-clause-written c = read_is_image
