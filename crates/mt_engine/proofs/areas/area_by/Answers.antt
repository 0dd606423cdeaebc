use Rattle.mt_engine.proofs.Prelude.{rules}
use Rattle.mt_engine.proofs.areas.area_by.Goals as goal

pub returns-in-Lowest : goal.returns-in-Lowest
returns-in-Lowest g c = record {
  start = search rules;
  way = c.lowest_way.ensures.goes.way;
  rest = c.lowest_way.ensures.goes.rest;
  reads = c.lowest_way.ensures.goes.reads;
}

pub returns : goal.returns
returns g c = record {
  start = search rules;
  way = c.highest_way.ensures.goes.way;
  rest = c.highest_way.ensures.goes.rest;
  reads = c.highest_way.ensures.goes.reads;
}
