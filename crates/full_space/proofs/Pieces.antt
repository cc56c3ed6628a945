-- Bytes that are moved page by page: what one piece more comes to.
use Rattle.std.proofs.Common.{◌≡◌, ◌∙◌, ℕ, ◌+◌, ◌<◌, ◌≤◌, true, Option, Some, None, List, ◌++◌, length, take, drop, refl, ap, arith}
use Rattle.std.specs.Prelude.{is_some}
use Rattle.std.specs.Option.{option_map}
use Rattle.std.proofs.Math.Logic.{∥∥₁_elim}
use Rattle.std.proofs.Math.Bool.{Bool-set}
use Rattle.std.proofs.Math.Seq.{take-add}
use Rattle.std.proofs.lemmas.List.{length-take-le, length-drop}
use Rattle.cap_format.specs.Numbers.{page_bytes}
use Rattle.cap_format.specs.declared.cap.Cap.{Cap}
use Rattle.machine_types.specs.declared.touches.Access.{Access}
use Rattle.machine_types.specs.Granules.{bytes_at, with_bytes}
use Rattle.machine_types.specs.Stores.{Page}
use Rattle.tagged_memory.specs.Frames.{frame, with_frame}
use Rattle.page_table.specs.declared.table.Entry.{Entry}
use Rattle.contents.specs.Content.{Content, page_at, with_granules}
use Rattle.contents.specs.Accesses.{page_of_place, byte_of_place}
use Rattle.contents.specs.Transfers.{may_access, read_bytes_of, write_bytes_of}
use Rattle.contents.specs.Conditions.{Covers}
use Rattle.contents.proofs.SplitTransfers.{read_bytes-split, write_bytes-split}
use Rattle.contents.proofs.PageTransfers.{read_bytes-page, write_bytes-page}
use Rattle.stores.specs.declared.board.Board.{Board}
use Rattle.stores.specs.Known.{StandsFor}
use Rattle.stores.specs.Boards.{Stands}
use Rattle.stores.proofs.BoardPages.{entry-there}
use Rattle.stores.proofs.PageWrites.{bytes-keep}
use Rattle.full_space.specs.Own.{AreOwn}
use Rattle.full_space.proofs.OwnPages.{page_of_entry, page-is}
use Rattle.full_space.proofs.ChangedPages.{board-changed}

-- a page that may be accessed is there
access-some : (access : Access) (o : Option Page) → may_access access o ≡ true → is_some o ≡ true
access-some access None may = absurd (cc)
access-some access (Some p) may = refl

-- the page of each byte that is covered has an entry
pub covered-there : (board : Board) (region at n : ℕ) (access : Access) → ∥ StandsFor Stands board (Covers region at n access) ∥₁
    → (k : ℕ) → k < n → is_some (board.table.entries region (page_of_place (at + k))) ≡ true
covered-there board region at n access known k below = ∥∥₁_elim known (hlevel Bool-set) (λ (known : StandsFor Stands board (Covers region at n access)).
    entry-there board known.content region (page_of_place (at + k)) known.stands ∙ access-some access (page_at known.content region (page_of_place (at + k))) (known.holds k below))

-- A piece of the bytes from a place on, which lies on the page of an entry.
module _ (board : Board) (region at done count : ℕ) (e : Entry) (own : AreOwn board) (there : board.table.entries region (page_of_place (at + done)) ≡ Some e)
    (stay : byte_of_place (at + done) + count ≤ page_bytes) where
  page-there : (c : Content) → Stands board c → page_at c region (page_of_place (at + done)) ≡ Some (page_of_entry board.memory e)
  page-there c stands = page-is board c own stands region (page_of_place (at + done)) ∙ ap (option_map (page_of_entry board.memory)) there

  -- The bytes that were read are read still, and those of the piece behind them.
  pub read-more : (into later part : List ℕ) → take (done + count) later ≡ take done into ++ part → part ≡ bytes_at (frame board.memory e.frame.0) (byte_of_place (at + done)) count
      → (c : Content) → Stands board c → take done into ≡ read_bytes_of c region at done → take (done + count) later ≡ read_bytes_of c region at (done + count)
  read-more into later part more is c stands before =
      let page : read_bytes_of c region (at + done) count ≡ bytes_at (frame board.memory e.frame.0) (byte_of_place (at + done)) count =
      read_bytes-page c region (at + done) count (page_of_entry board.memory e) (record { stay = stay; there = page-there c stands }) in
      let split = read_bytes-split c region at done count in
      cc

  -- the bytes of the piece
  piece_of : List ℕ → List ℕ
  piece_of from = take count (drop done from)

  length-piece_of : (from : List ℕ) → done + count ≤ length from → length (piece_of from) ≡ count
  unfolding piece_of
  length-piece_of from within = length-take-le count (drop done from) (rw length-drop (omega arith))

  -- The bytes that were stored, and those of the piece behind them, are stored by a change of the page.
  write-split : (from : List ℕ) → done + count ≤ length from → (c : Content) → write_bytes_of c region at (take (done + count) from)
      ≡ with_granules (write_bytes_of c region at (take done from)) region (page_of_place (at + done)) (λ granules. with_bytes granules (byte_of_place (at + done)) (piece_of from))
  unfolding piece_of
  write-split from within c =
      ap (write_bytes_of c region at) (take-add done count from)
      ∙ write_bytes-split c region at (take done from) (piece_of from)
      ∙ ap (λ (n : ℕ). write_bytes_of (write_bytes_of c region at (take done from)) region (at + n) (piece_of from)) (length-take-le done from (omega arith))
      ∙ write_bytes-page (write_bytes_of c region at (take done from)) region (at + done) (piece_of from) (rw (length-piece_of from within) stay)

  -- so the board stands for what they leave
  pub write-more : (old : Board) (from : List ℕ) → done + count ≤ length from
      → (memory : List (List Cap)) → memory ≡ with_frame board.memory e.frame.0 (with_bytes (frame board.memory e.frame.0) (byte_of_place (at + done)) (take count (drop done from)))
      → ((c : Content) → Stands old c → Stands board (write_bytes_of c region at (take done from)))
      → (c : Content) → Stands old c → Stands (record board { memory = memory }) (write_bytes_of c region at (take (done + count) from))
  unfolding piece_of
  write-more old from within memory is before c stands =
      rw (write-split from within c)
      (board-changed board (write_bytes_of c region at (take done from)) region (page_of_place (at + done)) e (λ granules. with_bytes granules (byte_of_place (at + done)) (piece_of from))
      own (before c stands) there (bytes-keep region (byte_of_place (at + done)) (piece_of from)) memory is)
