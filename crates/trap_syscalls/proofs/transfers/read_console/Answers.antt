use Rattle.std.proofs.Common.{◌≡◌, ◌∙◌, ℕ, ◌+◌, ◌-◌, ◌≤◌, [], length, take, drop, refl, sym, ap, arith}
use Rattle.std.specs.Prelude.{min}
use Rattle.contents.specs.Numbers.{most_transfer}
use Rattle.contents.specs.Conditions.{Covers}
use Rattle.contents.specs.Transfers.{prepare_of, write_bytes_of}
use Rattle.machine_types.specs.declared.touches.Access.TheVariants.{Write}
use Rattle.machine.specs.Machines.{Machine, view_of}
use Rattle.machine.specs.Effects.{Gives}
use Rattle.stores.proofs.Keeping.{stands-weaker}
use Rattle.trap_syscalls.specs.declared.call.Call.{Call}
use Rattle.trap_syscalls.specs.Asked.{place_asked}
use Rattle.trap_syscalls.proofs.TransferLemmas.{prepared-two, read-nothing, read-found, read-lacking, killed-content}
use Rattle.trap_syscalls.proofs.TransferredWorlds.{asks, called-as, taken-world, left-of, with-input}
use Rattle.trap_syscalls.proofs.transfers.read_console.Goals as goal

pub returns-then-left-eq0-clause-called : goal.returns-then-left-eq0-clause-called
returns-then-left-eq0-clause-called g c m p d world there stands =
    let call = c.args.call.now in
    let w = c.args.world.now in
    let left = left-of m w c.len.result world c.len.ensures in
    let v = view_of m call.slot p in
    called-as m call.slot p _ _ _ _ (read-nothing v d (sym left ∙ c.if-left-eq0.true)) (c.answer.ensures.called m p d [] world there refl)

pub returns-then-left-eq0-clause-content : goal.returns-then-left-eq0-clause-content
returns-then-left-eq0-clause-content g c m p d world there stands =
    let w = c.args.world.now in
    let left = left-of m w c.len.result world c.len.ensures in
    let v = view_of m c.args.call.now.slot p in
    rw (read-nothing v d (sym left ∙ c.if-left-eq0.true)) stands

pub prepare-requires-clause-covered : goal.prepare-requires-clause-covered
prepare-requires-clause-covered g c =
    let call = c.args.call.now in
    let size = c.min-size.result in
    rw c.place_of-at.ensures
    (stands-weaker g.S.Stores.stands_for c.args.space.now (Covers call.region (place_asked call) call.count Write) (Covers call.region (place_asked call) size Write)
    (λ d covered k below. covered k (omega arith)) c.requires.covered)

pub returns-in-Ok-clause-called : goal.returns-in-Ok-clause-called
returns-in-Ok-clause-called g c m p d world there stands =
    let call = c.args.call.now in
    let w = c.args.world.now in
    let left = left-of m w c.len.result world c.len.ensures in
    let v = view_of m call.slot p in
    let size = c.min-size.result in
    let least = c.min-size.ensures ∙ ap (λ (n : ℕ). min n most_transfer) c.min.ensures in
    let at = c.place_of-at.result in
    let o = prepare_of d call.region at size Write in
    let after = write_bytes_of o.after call.region at (take size m.input) in
    let asked = asks m w call p c.requires.asked world there in
    let found = c.in-Ok.ensures.answer d stands in
    let touches = prepared-two d call.region at size Write c.in-Ok.touches found in
    let within : w.taken + size ≤ length w.input.items = omega (arith, c.len.ensures ∙ w.input.ok.0, world.taken) in
    let rest : Machine = record m { input = drop size m.input } in
    called-as m call.slot p _ _ _ _ (read-found v d call call.slot asked at c.place_of-at.ensures (c.len.result - w.taken) size left c.if-left-eq0.false least c.in-Ok.touches found)
    (with-input m call.slot p v after c.in-Ok.touches (Gives size) (drop size m.input) _ _ (c.answer-in-Ok.ensures.called rest p after c.in-Ok.touches (taken-world m w size world within) there touches))

pub returns-in-Ok-clause-content : goal.returns-in-Ok-clause-content
returns-in-Ok-clause-content g c m p d world there stands =
    let call = c.args.call.now in
    let w = c.args.world.now in
    let left = left-of m w c.len.result world c.len.ensures in
    let v = view_of m call.slot p in
    let size = c.min-size.result in
    let least = c.min-size.ensures ∙ ap (λ (n : ℕ). min n most_transfer) c.min.ensures in
    let at = c.place_of-at.result in
    let o = prepare_of d call.region at size Write in
    let asked = asks m w call p c.requires.asked world there in
    let found = c.in-Ok.ensures.answer d stands in
    let written = c.write_bytes.ensures.after o.after (c.in-Ok.ensures.after d stands) in
    let slice : take (w.taken + size - w.taken) (drop w.taken c.deref.result.now) ≡ take size m.input =
    ap (λ (n : ℕ). take n (drop w.taken c.deref.result.now)) (omega arith) ∙ ap (take size) (ap (drop w.taken) c.deref.ensures.value ∙ sym world.input) in
    rw (read-found v d call call.slot asked at c.place_of-at.ensures (c.len.result - w.taken) size left c.if-left-eq0.false least c.in-Ok.touches found, ← slice)
    written

pub returns-in-Err-clause-called : goal.returns-in-Err-clause-called
returns-in-Err-clause-called g c m p d world there stands =
    let call = c.args.call.now in
    let w = c.args.world.now in
    let left = left-of m w c.len.result world c.len.ensures in
    let v = view_of m call.slot p in
    let size = c.min-size.result in
    let least = c.min-size.ensures ∙ ap (λ (n : ℕ). min n most_transfer) c.min.ensures in
    let at = c.place_of-at.result in
    let asked = asks m w call p c.requires.asked world there in
    let lacking = c.in-Err.ensures.answer d stands in
    called-as m call.slot p _ _ _ _ (read-lacking v d call call.slot asked at c.place_of-at.ensures (c.len.result - w.taken) size left c.if-left-eq0.false least c.in-Err.lack lacking)
    (c.kill.ensures.called m p _ world there)

pub returns-in-Err-clause-content : goal.returns-in-Err-clause-content
returns-in-Err-clause-content g c m p d world there stands =
    let call = c.args.call.now in
    let w = c.args.world.now in
    let left = left-of m w c.len.result world c.len.ensures in
    let v = view_of m call.slot p in
    let size = c.min-size.result in
    let least = c.min-size.ensures ∙ ap (λ (n : ℕ). min n most_transfer) c.min.ensures in
    let at = c.place_of-at.result in
    let asked = asks m w call p c.requires.asked world there in
    let lacking = c.in-Err.ensures.answer d stands in
    let region : p.region ≡ call.region = sym (ap (λ (call : Call). call.region) asked) in
    rw (read-lacking v d call call.slot asked at c.place_of-at.ensures (c.len.result - w.taken) size left c.if-left-eq0.false least c.in-Err.lack lacking, killed-content, region)
    (c.kill.ensures.content _ (c.in-Err.ensures.after d stands))
