-- Where no word is fetched, and by which cause.
use Rattle.std.proofs.Common.{◌≡◌, ◌⊎◌, inl, inr, ℕ, refl, ap, IsFalse, None, Ok, Err, Result}
use Rattle.cap_format.specs.Pattern.{address_of}
use Rattle.cap_format.specs.Rights.{holds}
use Rattle.machine_types.specs.declared.cause.Cause.{Cause}
use Rattle.machine_types.specs.declared.cause.Cause.TheVariants as cause
use Rattle.machine_types.specs.declared.touches.Access.TheVariants.{Fetch}
use Rattle.machine_types.specs.declared.touches.Note.{Note}
use Rattle.contents.specs.declared.refusal.Refusal.{Refusal}
use Rattle.contents.specs.declared.refusal.Refusal.TheVariants.{NoPage, NoRight, NoFrame}
use Rattle.contents.specs.Content.{Content, CallOutcome}
use Rattle.contents.specs.Accesses.{page_of_place}
use Rattle.contents.specs.Looks.{rights_of}
use Rattle.contents.specs.Refusing.{LacksRight, IsRefusedInOrder}
use Rattle.contents.proofs.RefusalCauses.{fetch-in-order}
use Rattle.cheri_step.specs.Access.{fetch_cause, caused, code_of}
use Rattle.cheri_step.specs.Effect.{State, fetch_then, effect}
use Rattle.cheri_step.specs.Laws.{IsUnfetched, IsBound, place_of_code, LacksCode, FetchLacksFrame}
use Rattle.cheri_step.proofs.Fetched.{fetched_at, by-code}

-- after a refusal no word was fetched
then-unfetched : (s : State) (region : ℕ) (after : Content) (answer : Result (ℕ × Note) Cause) (cause : Cause) → answer ≡ Err cause → IsUnfetched cause (fetch_then s region after answer)
then-unfetched s region after answer cause e = rw e (record { end = refl; word = refl })

-- nor does the effect have one
pub effect-unfetched : (s : State) (region : ℕ) (cause : Cause) → (code_of s.content region s.pcc).answer ≡ Err cause → IsUnfetched cause (effect s region)
unfolding effect
effect-unfetched s region cause = then-unfetched s region (code_of s.content region s.pcc).after (code_of s.content region s.pcc).answer cause

-- bytes outside the bounds of PCC are no code
pub code-outside : (s : State) (region : ℕ) → IsFalse (holds s.pcc.bits (address_of s.pcc.bits) 4) → (code_of s.content region s.pcc).answer ≡ Err cause.CodeBounds
code-outside s region outside =
    by-code (λ (o : CallOutcome (Result (ℕ × Note) Cause)). o.answer ≡ Err cause.CodeBounds) s.content region s.pcc (λ _. refl) (λ within. absurd (cc))

-- within them a refusal of the fetch gives its cause
pub code-refused : (s : State) (region : ℕ) (refusal : Refusal) → IsBound s → (fetched_at s.content region s.pcc).answer ≡ Err refusal → (code_of s.content region s.pcc).answer ≡ Err (fetch_cause refusal)
code-refused s region refusal bound e =
    by-code (λ (o : CallOutcome (Result (ℕ × Note) Cause)). o.answer ≡ Err (fetch_cause refusal)) s.content region s.pcc (λ outside. absurd (cc)) (λ within. ap (caused fetch_cause) e)

-- where there is no page to execute
pub code-lacked : (s : State) (region : ℕ) → LacksCode s region → (code_of s.content region s.pcc).answer ≡ Err cause.CodePage
code-lacked s region lacks = by lacks.page
  where
    order : IsRefusedInOrder s.content Fetch region (place_of_code s region) (fetched_at s.content region s.pcc).answer
    order = fetch-in-order s.content region (place_of_code s region)

    by : (rights_of s.content region (page_of_place (place_of_code s region)) ≡ None) ⊎ LacksRight s.content Fetch region (place_of_code s region) → (code_of s.content region s.pcc).answer ≡ Err cause.CodePage
    by (inl none) = code-refused s region NoPage lacks.bound (order.page.1 none)
    by (inr right) = code-refused s region NoRight lacks.bound (order.right.1 right)

-- where the fetch lacks a frame
pub code-lacks-frame : (s : State) (region : ℕ) → FetchLacksFrame s region → (code_of s.content region s.pcc).answer ≡ Err cause.NoFrame
code-lacks-frame s region lacks = code-refused s region NoFrame lacks.bound ((fetch-in-order s.content region (place_of_code s region)).frame.1 lacks.frame)

-- Where there is no word, the fetch was refused so.
pub word-none : (s : State) (region : ℕ) → (effect s region).word ≡ None → IsFalse (holds s.pcc.bits (address_of s.pcc.bits) 4) ⊎ (LacksCode s region ⊎ FetchLacksFrame s region)
unfolding effect
word-none s region =
    by-code (λ (o : CallOutcome (Result (ℕ × Note) Cause)). (fetch_then s region o.after o.answer).word ≡ None → Unfetched) s.content region s.pcc
    (λ outside none. inl outside) (λ within none. by within (fetched_at s.content region s.pcc).answer refl none)
  where
    Unfetched : Type 0
    Unfetched = IsFalse (holds s.pcc.bits (address_of s.pcc.bits) 4) ⊎ (LacksCode s region ⊎ FetchLacksFrame s region)

    order : IsRefusedInOrder s.content Fetch region (place_of_code s region) (fetched_at s.content region s.pcc).answer
    order = fetch-in-order s.content region (place_of_code s region)

    by : IsBound s → (answer : Result (ℕ × Note) Refusal) → (fetched_at s.content region s.pcc).answer ≡ answer
        → (fetch_then s region (fetched_at s.content region s.pcc).after (caused fetch_cause answer)).word ≡ None → Unfetched
    by within (Ok f) e none = absurd (cc)
    by within (Err NoPage) e none = inr (inl (record { bound = within; page = inl (order.page.0 e) }))
    by within (Err NoRight) e none = inr (inl (record { bound = within; page = inr (order.right.0 e) }))
    by within (Err NoFrame) e none = inr (inr (record { bound = within; frame = order.frame.0 e }))
