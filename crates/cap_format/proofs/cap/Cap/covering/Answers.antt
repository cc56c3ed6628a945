use Rattle.std.proofs.Common.{◌≡◌, true, ap, ◌∙◌, ◌*◌, ◌%◌, ◌^◌, arith}
use Rattle.cap_format.specs.declared.cap.Cap.{Cap}
use Rattle.cap_format.specs.Pattern.{address_of, kind_of, perms_of, base_of, top_of}
use Rattle.cap_format.specs.SetBounds.{bounded}
use Rattle.cap_format.proofs.Roots.{unbounded, capability-address, capability-joined, capability-base, capability-top, capability-perms, capability-kind}
use Rattle.cap_format.proofs.cap.Cap.covering.Goals as goal

-- what is joined are the permissions and the address with their bounds
bits-are : (c : goal.After-joined) → c.joined.result ≡ bounded (unbounded c.args.address c.args.perms) c.args.size
bits-are c =
    let high : c.from.result * 2 ^ 48 % 2 ^ 64 ≡ c.args.perms * 2 ^ 48 = omega arith in
    c.joined.ensures ∙ rw (high, c.new_bounds-bounds.ensures.bits) (capability-joined c.args.address c.args.size c.args.perms (omega arith) (omega arith) (omega arith))

pub returns-clause-is : goal.returns-clause-is
returns-clause-is c = ap (λ b. let cap : Cap = record { bits = b; tag = true } in cap) (bits-are c)

pub returns-clause-address : goal.returns-clause-address
returns-clause-address c = ap address_of (bits-are c) ∙ capability-address c.args.address c.args.size c.args.perms (omega arith) (omega arith) (omega arith)

pub returns-clause-base : goal.returns-clause-base
returns-clause-base c = ap base_of (bits-are c) ∙ capability-base c.args.address c.args.size c.args.perms (omega arith) (omega arith) (omega arith)

pub returns-clause-top : goal.returns-clause-top
returns-clause-top c = ap top_of (bits-are c) ∙ capability-top c.args.address c.args.size c.args.perms (omega arith) (omega arith) (omega arith)

pub returns-clause-perms : goal.returns-clause-perms
returns-clause-perms c = ap perms_of (bits-are c) ∙ capability-perms c.args.address c.args.size c.args.perms (omega arith) (omega arith) (omega arith)

pub returns-clause-plain : goal.returns-clause-plain
returns-clause-plain c = ap kind_of (bits-are c) ∙ capability-kind c.args.address c.args.size c.args.perms (omega arith) (omega arith) (omega arith)
