use Rattle.ufork_program.proofs.ToolSayings.{input-left, board-left}
use Rattle.ufork_program.proofs.laws.promises_say.Goals as goal

pub returns : goal.returns
returns c = record {
  nothing = λ call promises is. (promises.memory_wanted is).whole.written;
  empty = λ call promises a b d e. promises.not_run a b d e;
  failed_line = λ call promises is. let h = promises.file_failed is in (h.name, h.failed.last, h.whole.written);
  broke_line = λ call promises is. (promises.input_failed is).whole.written;
  tool = λ call tool index promises command which. let board = board-left call tool index promises command which in (input-left call tool index promises command which, board.0, board.1);
  no_image_line = λ call promises is. let h = promises.image_refused is in (h.fault, h.named, h.whole.written);
  no_source_line = λ call promises is. let h = promises.source_refused is in (h.fault, h.named, h.whole.written);
  no_command = λ call promises is. let h = promises.usage is in (h.place, h.fault);
  sink = λ call promises is. promises.sink_failed is;
  sinks = λ call promises below rose. promises.sink_passed below rose;
  files = λ call promises below still rose. promises.file_passed below still rose;
  input = λ call promises below still rose. promises.input_passed below still rose;
}
