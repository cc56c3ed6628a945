-- What a fork that the stores refuse answers and leaves.
use Rattle.std.proofs.Common.{◌≡◌, refl, ℕ, Option, Some, None, Err, List}
use Rattle.machine_types.specs.declared.touches.NoFrame.{NoFrame}
use Rattle.machine_types.specs.Accounts.{Class}
use Rattle.contents.specs.Content.{Content}
use Rattle.contents.specs.Regions.{no_frame, fork_with, fork_of}

-- The refusal of a fork names no touch.
pub lack-is-no_frame : (c : Content) (from to : ℕ) (lack : NoFrame) → (fork_of c from to).answer ≡ Err lack → lack ≡ no_frame
unfolding fork_of
lack-is-no_frame c from to lack = by _
  where
    by : (o : Option (List Class)) → (fork_with c from to o).answer ≡ Err lack → lack ≡ no_frame
    by None e = cc
    by (Some account) e = absurd (cc)

-- A fork that is refused leaves the content.
pub lack-changes-nothing : (c : Content) (from to : ℕ) (lack : NoFrame) → (fork_of c from to).answer ≡ Err lack → (fork_of c from to).after ≡ c
unfolding fork_of
lack-changes-nothing c from to lack = by _
  where
    by : (o : Option (List Class)) → (fork_with c from to o).answer ≡ Err lack → (fork_with c from to o).after ≡ c
    by None e = refl
    by (Some account) e = absurd (cc)
