-- The fields of a page's entry by the bytes of the page. Assumes nothing.
use mathlib.Core.Path.{◌≡◌, refl}
use mathlib.Core.List.{List}
use Prim.Native.Nat.{ℕ}
use lib.ListN.{get_or}
use lib.Dec.{eqb}
use Rattle.model.specs.Bytes.{le16, le32}
use Rattle.model.specs.Page.{spare_of, page_at}
use Rattle.model.specs.Geometry.{leads}
use Rattle.model.specs.Zones.{entry_of}
use Rattle.model.specs.Recovery.{leads_to}
use Rattle.scan.specs.Taken.{entry_in}

module _ (xs : List ℕ) (k : ℕ) where
  pub field_lpn : le16 (page_at xs k) 512 ≡ (entry_in xs k).lpn
  unfolding entry_in entry_of spare_of
  field_lpn = refl

  pub field_cnt : le16 (page_at xs k) 514 ≡ (entry_in xs k).cnt
  unfolding entry_in entry_of spare_of
  field_cnt = refl

  pub field_leads : leads (eqb (get_or (page_at xs k) 524 0) 3) k ≡ leads_to (entry_in xs k)
  unfolding entry_in entry_of spare_of
  field_leads = refl

  pub field_ver : le32 (page_at xs k) 520 ≡ (entry_in xs k).ver
  unfolding entry_in entry_of spare_of
  field_ver = refl
