-- Rules that are tested one after another, and lists that are searched.
use Rattle.std.proofs.Common.{◌≡◌, ◌∙◌, ℕ, zero, suc, ◌+◌, ◌-◌, ◌*◌, ◌/◌, ◌<◌, ◌≤◌, ◌≢◌, Bool, true, false, if◌then◌else◌, Option, Some, None, List, [], ◌∷◌, ◌++◌, length, take, drop, get_or, slice_set, find, map, All, ◌==◌, refl, ap, sym, subst, arith, append_assoc}
use Rattle.std.specs.Option.{is_some}
use Rattle.std.proofs.lemmas.Bool.{eq-eqb, ne_eqb, false≢true}
use Rattle.std.proofs.lemmas.List.{drop_more, take_more, take_more_set}
use Rattle.std.proofs.lemmas.List.Elements.{All-append, All-get_or, All-from_get_or}
use Rattle.cap_format.specs.declared.image.ImageReason.TheVariants.{BadMagic}
use Rattle.cap_format.specs.Numbers.{file_header_bytes, program_header_bytes, relocation_bytes}
use Rattle.cap_format.specs.declared.image.ImageFault.{ImageFault}
use Rattle.cap_format.specs.declared.image.ProgramHeader.{ProgramHeader}
use Rattle.cap_format.specs.Rules.{Rule, first_fault}
use Rattle.cap_format.specs.FileNumbers.{byte_at}
use Rattle.cap_format.specs.Image.{fault_of, front_rules, rules, rules_with, headers_of, byte_rules, header_at, headers_at, header_rules, headers_rules, past_after, first_after, is_table, relocation_at, relocations_at, relocation_rules, relocations_rules}
use Rattle.cap_format.proofs.Holding.{holding-behind, none-holding, failing-behind}
use Rattle.elf_loader.specs.declared.image.Reloc.{Reloc}
use Rattle.elf_loader.specs.Loaded.{reloc_of}
use Rattle.elf_loader.specs.Tested.{IsInRegion, IsTableIn, IsNarrow}

-- what was found of the first rules, where it is a fault and where it is none
pub found-some : (a b : List Rule) (found : Option ImageFault) → is_some found ≡ true → found ≡ first_fault a → found ≡ first_fault (a ++ b)
found-some a b None some e = absurd (cc)
found-some a b (Some f) some e = sym (failing-behind a b f (sym e))

pub found-none : (a b : List Rule) (found : Option ImageFault) → is_some found ≡ false → found ≡ first_fault a → first_fault (a ++ b) ≡ first_fault b
found-none a b (Some f) none e = absurd (cc)
found-none a b None none e = holding-behind a b (none-holding a (sym e))

pub is-none : (found : Option ImageFault) → is_some found ≡ false → found ≡ None
is-none None none = refl
is-none (Some f) none = absurd (cc)

-- the headers from an index on have the fault that all have, and those before fit
pub record HeaderWalk (n : ℕ) (headers : List ProgramHeader) (past : ℕ) (first : Bool) (h i : ℕ) : Type 0 where
  pub place : h ≡ file_header_bytes + program_header_bytes * i
  pub same : first_fault (headers_rules n past first h (drop i headers)) ≡ first_fault (headers_rules n 0 true file_header_bytes headers)
  pub region : All IsInRegion (take i headers)
  pub tables : All (IsTableIn n) (take i headers)

rest-at : (n : ℕ) (headers : List ProgramHeader) (past : ℕ) (first : Bool) (h i : ℕ) (d : ProgramHeader) → i < length headers
    → headers_rules n past first h (drop i headers)
    ≡ header_rules n past first h (get_or headers i d)
    ++ headers_rules n (past_after past (get_or headers i d)) (first_after first (get_or headers i d)) (h + program_header_bytes) (drop (i + 1) headers)
rest-at n headers past first h i d below = ap (headers_rules n past first h) (drop_more headers i d below)

pub header-fault : (n : ℕ) (headers : List ProgramHeader) (past : ℕ) (first : Bool) (h i : ℕ) (d : ProgramHeader) (found : Option ImageFault) → HeaderWalk n headers past first h i → i < length headers
    → is_some found ≡ true → found ≡ first_fault (header_rules n past first h (get_or headers i d)) → found ≡ first_fault (headers_rules n 0 true file_header_bytes headers)
header-fault n headers past first h i d found w below some e =
    found-some (header_rules n past first h (get_or headers i d))
    (headers_rules n (past_after past (get_or headers i d)) (first_after first (get_or headers i d)) (h + program_header_bytes) (drop (i + 1) headers)) found some e
    ∙ ap first_fault (sym (rest-at n headers past first h i d below)) ∙ w.same

all-one : {X : Type 0} (P : X → Type 0) (x : X) → P x → All P (x ∷ [])
all-one P x p = All-from_get_or P (x ∷ []) x (λ i lt. by i lt)
  where
    by : (i : ℕ) → i < length (x ∷ []) → P (get_or (x ∷ []) i x)
    by zero lt = p
    by (suc i) lt = absurd (omega (arith, lt))

pub header-more : (n : ℕ) (headers : List ProgramHeader) (past : ℕ) (first : Bool) (h i : ℕ) (d : ProgramHeader) (found : Option ImageFault) (past2 : ℕ) (first2 : Bool)
    → HeaderWalk n headers past first h i → i < length headers → is_some found ≡ false → found ≡ first_fault (header_rules n past first h (get_or headers i d)) → IsInRegion (get_or headers i d) → IsTableIn n (get_or headers i d)
    → past2 ≡ past_after past (get_or headers i d) → first2 ≡ first_after first (get_or headers i d) → HeaderWalk n headers past2 first2 (h + 56) (i + 1)
header-more n headers past first h i d found past2 first2 w below none e region table p q = record {
  place = omega (arith, w.place);
  same = rw (p, q) (sym (found-none (header_rules n past first h (get_or headers i d))
      (headers_rules n (past_after past (get_or headers i d)) (first_after first (get_or headers i d)) (h + program_header_bytes) (drop (i + 1) headers)) found none e)
      ∙ ap first_fault (sym (rest-at n headers past first h i d below)) ∙ w.same);
  region = rw (take_more headers i d below) (All-append IsInRegion (take i headers) (get_or headers i d ∷ []) w.region (all-one IsInRegion (get_or headers i d) region));
  tables = rw (take_more headers i d below) (All-append (IsTableIn n) (take i headers) (get_or headers i d ∷ []) w.tables (all-one (IsTableIn n) (get_or headers i d) table));
}

-- the identification from a place on
pub bytes-fault : (file bytes : List ℕ) (i : ℕ) → i < length bytes → (byte_at file i == get_or bytes i 0) ≡ false
    → first_fault (byte_rules file i (drop i bytes)) ≡ first_fault (byte_rules file 0 bytes) → Some (record { reason = BadMagic; place = i }) ≡ first_fault (byte_rules file 0 bytes)
bytes-fault file bytes i below other same = (let e = drop_more bytes i 0 below in rw (e, other) at same)

pub bytes-more : (file bytes : List ℕ) (i : ℕ) → i < length bytes → (byte_at file i == get_or bytes i 0) ≡ true
    → first_fault (byte_rules file i (drop i bytes)) ≡ first_fault (byte_rules file 0 bytes) → first_fault (byte_rules file (i + 1) (drop (i + 1) bytes)) ≡ first_fault (byte_rules file 0 bytes)
bytes-more file bytes i below one same = (let e = drop_more bytes i 0 below in rw (e, one) at same)

-- the relocations from one on have the fault that all have
pub record RelocationWalk (file : List ℕ) (headers : List ProgramHeader) (from count least r i : ℕ) : Type 0 where
  pub place : r ≡ from + relocation_bytes * i
  pub within : i ≤ count
  pub same : first_fault (relocations_rules headers least r (relocations_at file r (count - i))) ≡ first_fault (relocations_rules headers 0 from (relocations_at file from count))
  pub narrow : All IsNarrow (relocations_at file r (count - i)) → All IsNarrow (relocations_at file from count)

relocations-left : (file : List ℕ) (r left : ℕ) → 0 < left → relocations_at file r left ≡ relocation_at file r ∷ relocations_at file (r + relocation_bytes) (left - 1)
relocations-left file r zero some = absurd (omega arith)
relocations-left file r (suc left) some = ap (λ k. relocation_at file r ∷ relocations_at file (r + relocation_bytes) k) (omega arith)

pub relocation-fault : (file : List ℕ) (headers : List ProgramHeader) (from count least r i : ℕ) (found : Option ImageFault) → RelocationWalk file headers from count least r i → i < count
    → is_some found ≡ true → found ≡ first_fault (relocation_rules headers least r (relocation_at file r)) → found ≡ first_fault (relocations_rules headers 0 from (relocations_at file from count))
relocation-fault file headers from count least r i found w below some e =
    found-some (relocation_rules headers least r (relocation_at file r))
    (relocations_rules headers ((relocation_at file r).place + 1) (r + relocation_bytes) (relocations_at file (r + relocation_bytes) (count - i - 1))) found some e
    ∙ ap (λ rest. first_fault (relocations_rules headers least r rest)) (sym (relocations-left file r (count - i) (omega (arith, below)))) ∙ w.same

pub relocation-more : (file : List ℕ) (headers : List ProgramHeader) (from count least r i : ℕ) (found : Option ImageFault) → RelocationWalk file headers from count least r i → i < count
    → is_some found ≡ false → found ≡ first_fault (relocation_rules headers least r (relocation_at file r)) → IsNarrow (relocation_at file r)
    → RelocationWalk file headers from count ((relocation_at file r).place + 1) (r + 40) (i + 1)
relocation-more file headers from count least r i found w below none e narrow = record {
  narrow = λ rest.
      let left : count - (i + 1) ≡ count - i - 1 = omega arith in
      w.narrow (rw (relocations-left file r (count - i) (omega (arith, below)))
      (All-append IsNarrow (relocation_at file r ∷ []) (relocations_at file (r + relocation_bytes) (count - i - 1)) (all-one IsNarrow (relocation_at file r) narrow) (rw left at rest)));
  place = omega (arith, w.place);
  within = omega (arith, below);
  same =
      let left : count - (i + 1) ≡ count - i - 1 = omega arith in
      rw left (sym (found-none (relocation_rules headers least r (relocation_at file r))
      (relocations_rules headers ((relocation_at file r).place + 1) (r + relocation_bytes) (relocations_at file (r + relocation_bytes) (count - i - 1))) found none e)
      ∙ ap (λ rest. first_fault (relocations_rules headers least r rest)) (sym (relocations-left file r (count - i) (omega (arith, below)))) ∙ w.same);
}

-- the headers that are read so far, and those that are left
pub headers-left : (file : List ℕ) (h left : ℕ) → 0 < left → headers_at file h left ≡ header_at file h ∷ headers_at file (h + program_header_bytes) (left - 1)
headers-left file h zero some = absurd (omega arith)
headers-left file h (suc left) some = ap (λ k. header_at file h ∷ headers_at file (h + program_header_bytes) k) (omega arith)

pub headers-more : (file : List ℕ) (list : List ProgramHeader) (all : List ProgramHeader) (count i : ℕ) → i < count → i < length list
    → take i list ++ headers_at file (file_header_bytes + program_header_bytes * i) (count - i) ≡ all
    → take (i + 1) (slice_set list i (header_at file (file_header_bytes + program_header_bytes * i))) ++ headers_at file (file_header_bytes + program_header_bytes * (i + 1)) (count - (i + 1)) ≡ all
headers-more file list all count i below room same =
    let here = file_header_bytes + program_header_bytes * i in
    let next : here + program_header_bytes ≡ file_header_bytes + program_header_bytes * (i + 1) = omega arith in
    let left : count - (i + 1) ≡ count - i - 1 = omega arith in
    let step : headers_at file here (count - i) ≡ header_at file here ∷ headers_at file (file_header_bytes + program_header_bytes * (i + 1)) (count - (i + 1)) =
    headers-left file here (count - i) (omega (arith, below)) ∙ ap (λ p. header_at file here ∷ headers_at file p (count - i - 1)) next
    ∙ ap (λ k. header_at file here ∷ headers_at file (file_header_bytes + program_header_bytes * (i + 1)) k) (sym left) in
    rw (take_more_set list i (header_at file here) room)
    (append_assoc (take i list) (header_at file here ∷ []) (headers_at file (file_header_bytes + program_header_bytes * (i + 1)) (count - (i + 1)))
    ∙ ap (λ rest. take i list ++ rest) (sym step) ∙ same)

-- a byte of a file is that of a list or isn't
pub differ : (file bytes : List ℕ) (i : ℕ) → get_or file i 0 ≢ get_or bytes i 0 → (byte_at file i == get_or bytes i 0) ≡ false
unfolding byte_at
differ file bytes i other = ne_eqb (get_or file i 0) (get_or bytes i 0) other

pub agree : (file bytes : List ℕ) (i : ℕ) → get_or file i 0 ≡ get_or bytes i 0 → (byte_at file i == get_or bytes i 0) ≡ true
unfolding byte_at
agree file bytes i same = eq-eqb (get_or file i 0) (get_or bytes i 0) same

-- what holds of all holds behind the first
all-behind : {X : Type 0} (P : X → Type 0) (x : X) (xs : List X) → All P (x ∷ xs) → All P xs
all-behind P x xs all = All-from_get_or P xs x (λ i lt. All-get_or P (x ∷ xs) (suc i) x (omega (arith, lt)) all)

-- the first table fits
pub table-fits : (n : ℕ) (headers : List ProgramHeader) (table : ProgramHeader) → find is_table headers ≡ Some table → All (IsTableIn n) headers → table.from + table.in_file ≤ n
table-fits n [] table is fit = absurd (cc)
table-fits n (header ∷ headers) table is fit = by (is_table header) refl is (All-get_or (IsTableIn n) (header ∷ headers) 0 header (omega arith) fit) (λ e. table-fits n headers table e (all-behind (IsTableIn n) header headers fit))
  where
    by : (b : Bool) → is_table header ≡ b → find is_table (header ∷ headers) ≡ Some table → IsTableIn n header → (find is_table headers ≡ Some table → table.from + table.in_file ≤ n) → table.from + table.in_file ≤ n
    by true t is fits k = let same : header ≡ table = (let one = rw t at is in cc) in subst (λ x. x.from + x.in_file ≤ n) same (fits.ends t)
    by false t is fits k = k (rw t at is)

pub table-room : (from size n : ℕ) → from + size ≤ n → from + 40 * (size / 40) ≤ n
table-room from size n fits = omega (arith, fits)

-- the first of relocations that fit, and the others
pub first-narrow : (file : List ℕ) (r left : ℕ) → 0 < left → All IsNarrow (relocations_at file r left) → IsNarrow (relocation_at file r)
first-narrow file r left some all =
    let split : All IsNarrow (relocation_at file r ∷ relocations_at file (r + relocation_bytes) (left - 1)) = subst (All IsNarrow) (relocations-left file r left some) all in
    All-get_or IsNarrow (relocation_at file r ∷ relocations_at file (r + relocation_bytes) (left - 1)) 0 (relocation_at file r) (omega arith) split

pub rest-narrow : (file : List ℕ) (from count i : ℕ) → i < count → All IsNarrow (relocations_at file (from + relocation_bytes * i) (count - i))
    → All IsNarrow (relocations_at file (from + relocation_bytes * (i + 1)) (count - (i + 1)))
rest-narrow file from count i below all =
    let here = from + relocation_bytes * i in
    let next : here + relocation_bytes ≡ from + relocation_bytes * (i + 1) = omega arith in
    let left : count - i - 1 ≡ count - (i + 1) = omega arith in
    let split : All IsNarrow (relocation_at file here ∷ relocations_at file (here + relocation_bytes) (count - i - 1)) =
    subst (All IsNarrow) (relocations-left file here (count - i) (omega (arith, below))) all in
    rw (next, left) at (all-behind IsNarrow (relocation_at file here) (relocations_at file (here + relocation_bytes) (count - i - 1)) split)

pub relocs-more : (file : List ℕ) (from count i : ℕ) (items all : List Reloc) (value : Reloc) → i < count → value ≡ reloc_of (relocation_at file (from + relocation_bytes * i))
    → items ++ map reloc_of (relocations_at file (from + relocation_bytes * i) (count - i)) ≡ all
    → (items ++ value ∷ []) ++ map reloc_of (relocations_at file (from + relocation_bytes * (i + 1)) (count - (i + 1))) ≡ all
relocs-more file from count i items all value below is same =
    let here = from + relocation_bytes * i in
    let next : here + relocation_bytes ≡ from + relocation_bytes * (i + 1) = omega arith in
    let left : count - i - 1 ≡ count - (i + 1) = omega arith in
    let split : relocations_at file here (count - i) ≡ relocation_at file here ∷ relocations_at file (from + relocation_bytes * (i + 1)) (count - (i + 1)) =
    relocations-left file here (count - i) (omega (arith, below)) ∙ ap (λ p. relocation_at file here ∷ relocations_at file p (count - i - 1)) next
    ∙ ap (λ k. relocation_at file here ∷ relocations_at file (from + relocation_bytes * (i + 1)) k) left in
    append_assoc items (value ∷ []) (map reloc_of (relocations_at file (from + relocation_bytes * (i + 1)) (count - (i + 1))))
    ∙ ap (λ v. items ++ v ∷ map reloc_of (relocations_at file (from + relocation_bytes * (i + 1)) (count - (i + 1)))) is
    ∙ ap (λ rs. items ++ map reloc_of rs) (sym split) ∙ same

-- where the rules before the program headers hold, the fault is that of the rules of these
pub behind-front : (file : List ℕ) (headers : List ProgramHeader) → headers ≡ headers_of file → first_fault (front_rules file) ≡ None → fault_of file ≡ first_fault (rules_with file headers)
unfolding rules
behind-front file headers same none =
    holding-behind (front_rules file) (rules_with file (headers_of file)) (none-holding (front_rules file) none) ∙ ap (λ (hs : List ProgramHeader). first_fault (rules_with file hs)) (sym same)

-- and where one of them fails, it is its own
pub at-front : (file : List ℕ) (fault : ImageFault) → first_fault (front_rules file) ≡ Some fault → fault_of file ≡ Some fault
unfolding rules
at-front file fault e = failing-behind (front_rules file) (rules_with file (headers_of file)) fault e

pub none-of : (found : Option ImageFault) → ((f : ImageFault) → found ≡ Some f → ⊥) → found ≡ None
none-of None other = refl
none-of (Some f) other = absurd (other f refl)

-- a value was pushed
pub pushed : {X : Type 0} (items new : List X) (value : X) (done : Bool) → new ≡ (if done then items ++ value ∷ [] else items) → done ≡ true → new ≡ items ++ value ∷ []
pushed items new value true is e = is
pushed items new value false is e = absurd (false≢true e)
