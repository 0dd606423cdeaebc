use Rattle.mt_c.proofs.images.image_of.Goals as goal

pub returns-clause-rest : goal.returns-clause-rest
returns-clause-rest c = record { rest = c.image_of.ensures.rest; book = c.image_of.ensures.book; kind = c.image_of.ensures.kind }
