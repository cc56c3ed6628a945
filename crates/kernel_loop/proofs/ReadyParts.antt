-- Who is ready, by what a world has.
use Rattle.std.proofs.Common.{◌≡◌, ◌∙◌, sym, ap, refl, ℕ, false, Option, Some, None, List}
use Rattle.machine.specs.declared.process.Process.{Process}
use Rattle.machine.specs.Processes.{process_at, children_of}
use Rattle.machine.specs.Pipes.{Table, table_at, pipes_of}
use Rattle.machine.specs.Machines.{Machine}
use Rattle.machine.specs.Readiness.{is_ready, ready_in, ready_as}

-- a slot without a process isn't
pub nobody-ready : (m : Machine) (processes : List (Option Process)) (slot : ℕ) → m.processes ≡ processes → process_at processes slot ≡ None → false ≡ is_ready m slot
unfolding is_ready
nobody-ready m processes slot same none = sym (ap (ready_in m slot) (ap (λ (os : List (Option Process)). process_at os slot) same ∙ none))

-- a slot with a process is where the process may go on
pub somebody-ready : (m : Machine) (processes : List (Option Process)) (tables : List Table) (pipes : List (List ℕ)) (slot : ℕ) (p : Process) → m.processes ≡ processes → m.tables ≡ tables → m.pipes ≡ pipes → process_at processes slot ≡ Some p
    → ready_as p (table_at tables slot) (pipes_of tables pipes) (children_of p.id processes) p.state ≡ is_ready m slot
unfolding is_ready
somebody-ready m processes tables pipes slot p os ts ps there =
    sym (ap (ready_in m slot) (ap (λ (x : List (Option Process)). process_at x slot) os ∙ there) ∙ rw (os, ts, ps) refl)

-- who is ready doesn't depend on the content, the input and the clock
pub ready-parts : (m n : Machine) (k : ℕ) → m.processes ≡ n.processes → m.tables ≡ n.tables → m.pipes ≡ n.pipes → is_ready m k ≡ is_ready n k
unfolding is_ready
ready-parts m n k processes tables pipes =
    ap (λ (os : List (Option Process)). ready_in (record m { processes = os }) k (process_at os k)) processes
    ∙ ap (λ (ts : List Table). ready_in (record m { processes = n.processes; tables = ts }) k (process_at n.processes k)) tables
    ∙ ap (λ (ps : List (List ℕ)). ready_in (record m { processes = n.processes; tables = n.tables; pipes = ps }) k (process_at n.processes k)) pipes
    ∙ by (process_at n.processes k)
  where
    by : (o : Option Process) → ready_in (record m { processes = n.processes; tables = n.tables; pipes = n.pipes }) k o ≡ ready_in n k o
    by None = refl
    by (Some p) = refl
