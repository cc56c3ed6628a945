use Rattle.machine.proofs.CallRows.{calls-are-effects}
use Rattle.machine.proofs.laws.calls_are_effects.Goals as goal

pub returns : goal.returns
returns c = calls-are-effects (record {
  keeps = c.calls_keep_sound.ensures;
  setting = c.settings_stay.ensures;
  others = c.other_stores_stay.ensures;
  looks = c.store_decides_looks.ensures;
  regions = c.regions_are_kept.ensures;
  forks = c.fork_copies_the_store.ensures;
  covers = c.covers_each_byte.ensures;
  prepared = c.prepared_leaves_no_touch.ensures;
  goes_on = c.code_goes_on.ensures;
  code_moves = c.code_moves.ensures;
  moves = c.pages_are_moved.ensures;
  places = c.places_are_lowest.ensures;
  children = c.children_are_found.ensures;
})
