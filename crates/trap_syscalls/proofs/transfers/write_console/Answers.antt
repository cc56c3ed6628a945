use Rattle.std.proofs.Common.{◌≡◌, ◌∙◌, ℕ, ◌+◌, List, [], length, take, sym, ap, arith}
use Rattle.std.specs.Vec.{with_items}
use Rattle.std.proofs.lemmas.List.{with_items_is}
use Rattle.contents.specs.Conditions.{Covers}
use Rattle.contents.specs.Transfers.{prepare_of, read_bytes_of}
use Rattle.contents.proofs.SeenReads.{read_bytes-length}
use Rattle.machine_types.specs.declared.touches.Access.TheVariants.{Read}
use Rattle.machine.specs.Machines.{view_of}
use Rattle.machine.specs.Calls.{sent}
use Rattle.stores.proofs.Keeping.{stands-weaker}
use Rattle.trap_syscalls.specs.declared.call.Call.{Call}
use Rattle.trap_syscalls.specs.Asked.{place_asked}
use Rattle.trap_syscalls.proofs.TransferLemmas.{covers-part, prepared-two, write-found, write-lacking, sent-content, killed-content}
use Rattle.trap_syscalls.proofs.TransferredWorlds.{asks, called-as, with-piece}
use Rattle.trap_syscalls.proofs.transfers.write_console.Goals as goal

pub prepare-requires-clause-covered : goal.prepare-requires-clause-covered
prepare-requires-clause-covered g c =
    let call = c.args.call.now in
    let done = c.done_of-done.result in
    let size = c.min-size.result in
    rw c.place_of.ensures
    (stands-weaker g.S.Stores.stands_for c.args.space.now (Covers call.region (place_asked call) call.count Read) (Covers call.region (place_asked call + done) size Read)
    (λ d covered. covers-part d call.region (place_asked call) call.count done size Read (omega arith) covered) c.requires.covered)

pub returns-in-Ok-clause-called : goal.returns-in-Ok-clause-called
returns-in-Ok-clause-called g c m p d world there stands =
    let call = c.args.call.now in
    let v = view_of m call.slot p in
    let done = c.done_of-done.result in
    let size = c.min-size.result in
    let at = c.place_of.result in
    let o = prepare_of d call.region (at + done) size Read in
    let asked = asks m c.args.world.now call p c.requires.asked world there in
    let found = c.in-Ok.ensures.answer d stands in
    let touches = prepared-two d call.region (at + done) size Read c.in-Ok.touches found in
    let called = c.sent-sent.ensures.called m p o.after c.in-Ok.touches world there touches in
    let kept = c.sent-sent.new.world.buffer in
    let bytes : List ℕ = c.read_front.new.buffer in
    let as_long : length bytes ≡ length kept.items = c.read_front.ensures.length ∙ ap length c.deref_mut.ensures.value in
    let items : (with_items kept bytes).items ≡ bytes = with_items_is kept bytes (c.read_front.ensures.length ∙ c.deref_mut.ensures.len) in
    called-as m call.slot p _ _ _ _ (write-found v d call call.slot asked at c.place_of.ensures done size c.done_of-done.ensures c.min-size.ensures c.in-Ok.touches found)
    (with-piece m call.slot p (sent v o.after c.in-Ok.touches [] (done + size)) c.sent-sent.result c.sent-sent.new.world (read_bytes_of o.after call.region (at + done) size) size (with_items kept bytes) called
    (ap length items ∙ as_long) (sym (read_bytes-length o.after call.region (at + done) size))
    (ap (take size) items ∙ c.read_front.ensures.front o.after (c.in-Ok.ensures.after d stands)))

pub returns-in-Ok-clause-content : goal.returns-in-Ok-clause-content
returns-in-Ok-clause-content g c m p d world there stands =
    let call = c.args.call.now in
    let v = view_of m call.slot p in
    let done = c.done_of-done.result in
    let size = c.min-size.result in
    let at = c.place_of.result in
    let o = prepare_of d call.region (at + done) size Read in
    let asked = asks m c.args.world.now call p c.requires.asked world there in
    let found = c.in-Ok.ensures.answer d stands in
    rw (write-found v d call call.slot asked at c.place_of.ensures done size c.done_of-done.ensures c.min-size.ensures c.in-Ok.touches found, sent-content)
    (c.in-Ok.ensures.after d stands)

pub returns-in-Err-clause-called : goal.returns-in-Err-clause-called
returns-in-Err-clause-called g c m p d world there stands =
    let call = c.args.call.now in
    let v = view_of m call.slot p in
    let done = c.done_of-done.result in
    let size = c.min-size.result in
    let at = c.place_of.result in
    let asked = asks m c.args.world.now call p c.requires.asked world there in
    let lacking = c.in-Err.ensures.answer d stands in
    called-as m call.slot p _ _ _ _ (write-lacking v d call call.slot asked at c.place_of.ensures done size c.done_of-done.ensures c.min-size.ensures c.in-Err.lack lacking)
    (c.kill.ensures.called m p _ world there)

pub returns-in-Err-clause-content : goal.returns-in-Err-clause-content
returns-in-Err-clause-content g c m p d world there stands =
    let call = c.args.call.now in
    let v = view_of m call.slot p in
    let done = c.done_of-done.result in
    let size = c.min-size.result in
    let at = c.place_of.result in
    let asked = asks m c.args.world.now call p c.requires.asked world there in
    let lacking = c.in-Err.ensures.answer d stands in
    let region : p.region ≡ call.region = sym (ap (λ (call : Call). call.region) asked) in
    rw (write-lacking v d call call.slot asked at c.place_of.ensures done size c.done_of-done.ensures c.min-size.ensures c.in-Err.lack lacking, killed-content, region)
    (c.kill.ensures.content _ (c.in-Err.ensures.after d stands))
