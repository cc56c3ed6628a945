-- Pipes of which one is written.
use Rattle.std.proofs.Common.{◌≡◌, ◌∙◌, sym, ap, ℕ, ◌<◌, List, length, map, get_or, slice_set}
use Rattle.std.proofs.lemmas.List.{get_or_default}
use Rattle.std.proofs.Math.Seq.{map-set_same}
use Rattle.pipe_files.specs.declared.pipes.Pipe.{Pipe}
use Rattle.pipe_files.specs.Counts.{no_pipe, pipe_at, parts}

-- the pipe that is written is the one of its number
pub found : (pipes : List Pipe) (i : ℕ) (p : Pipe) → i < length pipes → p ≡ get_or pipes i p → pipe_at pipes i ≡ p
found pipes i p within e = sym (e ∙ get_or_default pipes i p no_pipe within)

-- all else stays where it stays of the pipe that is written
pub same_parts : (pipes : List Pipe) (i : ℕ) (p q : Pipe) → i < length pipes → p ≡ get_or pipes i p → parts q ≡ parts p → map parts (slice_set pipes i q) ≡ map parts pipes
same_parts pipes i p q within e same = map-set_same parts pipes i q no_pipe (same ∙ ap parts (sym (found pipes i p within e)))
