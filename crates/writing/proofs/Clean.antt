-- What the checks of a command that writes pages leave to it where none applies. Assumes nothing.
use Prim.Native.Nat.{ℕ, ◌+◌, ◌<◌}
use mathlib.Core.Path.{◌≡◌}
use mathlib.Core.Bool.{true, false}
use mathlib.Core.List.{List}
use lib.ListN.{length}
use lib.Dec.{eqb}
use borrow.Author.Tests.{leb-false, ltb-false, ne_eqb, eqb-true, not-false}
use native.Mathlib.Omega.{arith}
use Rattle.model.specs.World.{World}
use Rattle.model.specs.Frame.{frame_ok}
use Rattle.model.specs.Transactions.{place_of, place_with, has_held, clean_pages, longest_change, bad_logical_page, not_begun, too_long, bad_length, short_zone, versions_spent}
use Rattle.change.specs.Changes.{Taking, Writing}

-- 11
pub data_long : (d : List ℕ) → (bad_length d).when ≡ false → length d ≡ 512
data_long d e = eqb-true (length d) 512 (not-false (eqb (length d) 512) e)

module _ (w : World) (frame : frame_ok w ≡ true) where
  -- 13 and 12, where a page is programmed
  pub page_taking : (versions_spent true w.state.version 1).when ≡ false → (short_zone true w).when ≡ false
      → Taking w.state w.array w.map w.hold
  page_taking spent short =
      let v = ltb-false 4294967294 (w.state.version + 1) spent in
      record { frame = frame; clean = leb-false (clean_pages w) w.state.geometry.pages short; number = omega arith }

  -- the place of a change that was begun
  module _ (id : ℕ) (begun : (not_begun id w).when ≡ false) where
    pub place_low : place_of w.state.places id < 8
    place_low = leb-false 8 (place_of w.state.places id) begun

    held : 0 < (place_with id w).count → has_held id w ≡ true
    held h = rw (ne_eqb (place_with id w).count 0 (λ z. omega (arith, h, z)))

    -- 5, 10, 12 of a page more in it
    pub page_writing : (lpn : ℕ) (d : List ℕ) → length d ≡ 512 → (bad_logical_page lpn w).when ≡ false → (too_long id w).when ≡ false
        → (short_zone (has_held id w) w).when ≡ false → Writing w.state w.array w.map w.hold (place_of w.state.places id) lpn d
    page_writing lpn d long page room short =
        let few = leb-false longest_change (place_with id w).count room in
        record {
          frame = frame;
          bytes = long;
          page = leb-false w.state.geometry.logical lpn page;
          place = place_low;
          room = omega arith;
          clean = λ h. leb-false (clean_pages w) w.state.geometry.pages (rw (held h) at short);
        }

    -- 13 and 12 of its commit
    pub place_taking : (versions_spent (has_held id w) w.state.version 1).when ≡ false → (short_zone (has_held id w) w).when ≡ false
        → 0 < (place_with id w).count → Taking w.state w.array w.map w.hold
    place_taking spent short h = page_taking (rw (held h) at spent) (rw (held h) at short)
