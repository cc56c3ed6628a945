-- The names and strings of a source stand at their places.
use Rattle.asm_text.proofs.SourcePlaces.{source-spans}
use Rattle.asm_text.proofs.laws.sources_have_spans.Goals as goal

pub returns : goal.returns
returns c = source-spans
