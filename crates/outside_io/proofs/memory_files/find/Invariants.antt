use Rattle.std.proofs.Common.{◌≡◌, drop, map, string_bytes}
use Rattle.outside_io.specs.Memory.{content_of}
use Rattle.outside_io.proofs.memory_files.find.Given as goal

-- the entries before this one have other names
abbrev pub invariant-loop-entry : goal.invariant-loop-entry
invariant-loop-entry l =
    content_of (map (λ e. (string_bytes e.0, e.1.items)) (drop l.entry-index l.entries)) l.name
    ≡ content_of (map (λ e. (string_bytes e.0, e.1.items)) l.entries) l.name
