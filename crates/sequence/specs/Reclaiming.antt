-- A stride of reclaim keeps the world live with the same book: a copy as a lone write, or the erase of a block on which nothing is mapped.
-- Cut at any bit, the array is sound with the same pages of the book.
use Rattle.std.specs.Prelude.{◌≡◌, ◌⊎◌, ◌≢◌, Bool, true, false, ◌||◌, not, ℕ, suc, ◌+◌, ◌-◌, ◌*◌, ◌≤◌, ◌<◌, List, [], ◌∷◌, length, get_or, eqb, leb, ltb}
use Rattle.std.proofs.Math.Path.{refl}
use Rattle.std.proofs.Common.{sym, ◌∙◌, subst, inl, inr, arith, mul-le-mul_right, length-set, eqb-true, ltb-false, leb-false, le-ltb}
use Rattle.std.proofs.lemmas.Bool.{eqb-false}
use Rattle.model.specs.Lists.{find, count, all}
use Rattle.model.specs.Page.{page_at, page_bytes, data_at, whole_at}
use Rattle.model.specs.Geometry.{unmapped, data_block}
use Rattle.model.specs.World.{World, Plan, erase, apply_op, cut_op}
use Rattle.model.specs.Frame.{is_idle}
use Rattle.model.specs.Checkpoint.{Found}
use Rattle.model.specs.Transactions.{clean_pages, next_page, spent, data_bytes, lone_map, with_version, with_last}
use Rattle.model.specs.Strides.{with_work, with_zones, is_reclaim, mapped_in, lowest_from, copy_stride, free_stride, reclaim_stride, plan_reclaim, block_taken, reclaim_checks}
use Rattle.model.specs.Commands.{reclaim, plan, carried}
use Rattle.model.specs.Book.{Book, entering, changing}
use Rattle.model.specs.declared.Geometry.{Geometry}
use Rattle.model.specs.declared.Spare.{Spare}
use Rattle.model.specs.declared.Work.{Work}
use Rattle.model.specs.declared.Work.TheVariants.{Idle, Format, Checkpoint, Reclaim}
use Rattle.arrays.specs.Tests.{Is, eqb_cases, clash, decide}
use Rattle.arrays.specs.Order.{numbered, Unless}
use Rattle.arrays.specs.Bytelist.{Bytes}
use Rattle.arrays.specs.Pages.{BlockFits, Outside, length_data, bytes_data, data_same}
use Rattle.arrays.specs.Ranges.{block_is, block_most, page_small, any_page_fits, data_block_fits}
use Rattle.arrays.specs.Image.{SpareFits}
use Rattle.arrays.specs.Whole.{whole_not_blank}
use Rattle.arrays.specs.Ops.{length_apply, length_cut, bytes_apply, bytes_cut, program_other, erase_other, erase_others, cut_erase_other, cut_erase_others}
use Rattle.arrays.specs.Arrays.{leans_apply, leans_cut}
use Rattle.front.specs.Newest.{SameFront}
use Rattle.front.specs.Front.{front_away}
use Rattle.front.specs.Kept.{calm, kept_away}
use Rattle.scanlog.specs.Occ.{occ, occ_nil, occ_cons, occ_no}
use Rattle.scanlog.specs.Shape.{Unlisted}
use Rattle.scanlog.specs.Pick.{Fewest, Picked, in_block, inside_block, picked_is, lowest, lowest_inside, lowest_found, lowest_at}
use Rattle.scanlog.specs.Reclaim.{GoingOn, going_unlisted, going_copy, stride_goes, stride_going}
use Rattle.scanlog.specs.Free.{grown_freed, tidy_freed, scan_freed}
use Rattle.sequence.specs.Maps.{good_set, entry_in_law}
use Rattle.sequence.specs.Contents.{contents_copy, mapped_whole}
use Rattle.sequence.specs.Places.{place_at}
use Rattle.sequence.specs.Sound.{Sound, Stored}
use Rattle.sequence.specs.Live.{Live, live_range, scanned}
use Rattle.sequence.specs.View.{View, yes, view_checks, view_cond, Keeps, done_live, more_live, view_keeps}
use Rattle.sequence.specs.Append.{appended, next_is_data, next_mapped, next_blank, next_free_law, append_ok, append_whole, append_data, append_keeps}
use Rattle.sequence.specs.Append.{append_tidy, append_front, append_sound, append_contents, Appends, appends}
use Rattle.sequence.specs.Lone.{changing_grow, laid_still, lone_spare, lone_fits, lone_logged, lone_opens}
use Rattle.sequence.specs.Spared.{Spared, spared_changing, spared_sound, block_spares}

-- ---- the plan
-- nothing is under way but a reclaim
reclaim_calm : (k : Work) → not (is_idle k || is_reclaim k) ≡ false → calm k ≡ true
reclaim_calm Idle h = refl
reclaim_calm (Format k) h = clash refl h
reclaim_calm (Checkpoint k) h = clash refl h
reclaim_calm Reclaim h = refl

-- what a stride does to the picked block c
pub data Reclaims (w : World) : Plan → Type 0 where
  copies : (c : ℕ) → calm w.state.work ≡ true → GoingOn w c → 0 < mapped_in w.map w.state.geometry.pages c
      → Reclaims w (copy_stride (lowest_from w.map (c * w.state.geometry.pages) w.state.geometry.pages) w)
  frees : (c : ℕ) → calm w.state.work ≡ true → GoingOn w c → mapped_in w.map w.state.geometry.pages c ≡ 0 → Reclaims w (free_stride c w)

stride_view : (w : World) (c : ℕ) → GoingOn w c → calm w.state.work ≡ true → View w (Reclaims w) (reclaim_stride w)
stride_view w c h calm' =
    let due = mapped_in w.map w.state.geometry.pages c in
    subst (View w (Reclaims w)) (sym (stride_goes w c h))
    (view_cond w (Reclaims w) (eqb due 0) _ _ (λ z. yes _ (frees c calm' h (eqb-true due 0 z))) (λ z.
    let m : due ≢ 0 = eqb-false due 0 z in
    yes _ (copies c calm' h (omega arith))))

pub reclaim_view : (w : World) → w.state.version ≤ 4294967294 → View w (Reclaims w) (plan_reclaim w)
unfolding plan_reclaim numbered all Unless
reclaim_view w v = view_checks w (Reclaims w) (reclaim_stride w) (reclaim_checks w) refl (λ f i gain numbers reserve.
    stride_view w (block_taken w) (stride_going w v gain numbers reserve) (reclaim_calm w.state.work i))

-- a count of none has no mapped page in it
none_in : (p c : ℕ) (map : List ℕ) (k : ℕ) → 0 < occ k map → mapped_in map p c ≡ 0 → in_block p c k ≡ false
unfolding mapped_in count
none_in p c [] k o z = absurd (omega (arith, occ_nil k))
none_in p c (x ∷ map) k o z = go (eqb_cases k x) (in_block p c x) refl (none_in p c map k)
  where
    go : Is k x → (t : Bool) → in_block p c x ≡ t → (0 < occ k map → count (in_block p c) map ≡ 0 → in_block p c k ≡ false) → in_block p c k ≡ false
    go q true e ih = let y : suc (count (in_block p c) map) ≡ 0 = rw e at z in absurd (omega arith)
    go (inl q) false e ih = rw q.0 e
    go (inr q) false e ih = let y : count (in_block p c) map ≡ 0 = rw e at z in ih (omega (arith, occ_cons k x map, occ_no k x q.0)) y

-- ---- the picked block
module _ (w : World) (b : Book) (h : Live w b) (c : ℕ) (on : GoingOn w c) where
  -- geometry and array
  abbrev g : Geometry
  g = w.state.geometry

  abbrev xs : List ℕ
  xs = w.array

  few : Fewest w.state.zones w.map g.pages 2 (2 + (g.blocks - 2)) c
  few =
      subst (λ (f : Found). Picked w.state.zones w.map g.pages 2 (2 + (g.blocks - 2)) f) on.pick
      (picked_is w.state.zones w.map g.pages 2 (g.blocks - 2))

  unlisted : Unlisted w.state.zones c
  unlisted = going_unlisted g w.state.zones w.map c on.pick

  is_data : data_block g c ≡ true
  is_data = block_is g c few.low (omega (arith, few.high, (live_range w b h).blocks_least))

  pub inside : BlockFits g.pages xs c
  inside = data_block_fits g xs h.sound.long c is_data

  -- ---- a copy
  module _ (calm' : calm w.state.work ≡ true) (some : 0 < mapped_in w.map g.pages c) where
    -- the page that is copied, and the logical page that it is
    abbrev j : ℕ
    j = lowest w.map g.pages c some

    abbrev lpn : ℕ
    lpn = find (eqb j) w.map

    low : lpn < length w.map
    low = lowest_found w.map g.pages c some

    leads : get_or w.map lpn unmapped ≡ j
    leads = lowest_at w.map g.pages c some unmapped

    j_most : j < g.blocks * g.pages
    j_most =
        let i = inside_block g.pages c j (lowest_inside w.map g.pages c some) in
        let m : suc c * g.pages ≤ g.blocks * g.pages = mul-le-mul_right g.pages (block_most g c is_data) in
        omega (arith, i.1)

    j_mapped : j ≢ unmapped
    j_mapped q = absurd (omega (arith, q, page_small g j (live_range w b h) j_most))

    j_whole : whole_at xs j ≡ true
    j_whole = mapped_whole xs w.map b.pages h.sound.contents j j_mapped (subst (λ (x : ℕ). 0 < occ x w.map) leads (entry_in_law w.map lpn low))

    -- its data
    abbrev d : List ℕ
    d = data_at xs j

    long : length d ≡ 512
    long = length_data xs j (any_page_fits g xs h.sound.long j j_most)

    small : Bytes d
    small = bytes_data xs j h.sound.bytes

    clean : 0 < clean_pages w
    clean = omega (arith, on.reserve)

    logical_low : lpn < g.logical
    logical_low = omega (arith, low, h.sound.wide)

    more : spent w.state.version 1 ≡ false
    more = le-ltb 4294967294 (w.state.version + 1) (omega (arith, on.numbers))

    -- the spare area of the copy
    abbrev s : Spare
    s = lone_spare lpn (w.state.version + 1)

    fit : SpareFits s
    fit = lone_fits w b h clean lpn d long small logical_low more

    -- its page, and the array after it
    abbrev k : ℕ
    k = next_page w

    abbrev ys : List ℕ
    ys = appended w b h clean d s long small fit

    copy_sound : Sound g ys h.saved (lone_map lpn w) (w.state.version + 1) b.pages
    copy_sound =
        append_sound w b h clean d s long small fit (lone_map lpn w) (w.state.version + 1) b.pages
        (lone_logged w b h clean lpn d long small logical_low more)
        (good_set g w.map lpn k h.sound.good (next_is_data w b h clean d s long small fit) (next_free_law w b h clean d s long small fit))
        (length-set w.map lpn k ∙ h.sound.wide)
        (contents_copy ys w.map b.pages lpn k low (next_mapped w b h clean d s long small fit) (append_whole w b h clean d s long small fit)
        (rw leads j_mapped)
        (append_data w b h clean d s long small fit ∙ sym (rw leads (data_same xs ys j j (append_keeps w b h clean d s long small fit j j_whole))))
        (append_contents w b h clean d s long small fit))
        (omega (arith, ltb-false 4294967294 (w.state.version + 1) more))

    pub copy_live : Live (carried (copy_stride j w) w).world b
    unfolding carried copy_stride with_work with_version with_last data_bytes
    copy_live = record {
      saved = h.saved;
      sound = copy_sound;
      kept = kept_away w _ h.saved h.kept calm' refl (record { geometry = refl; checkpoint = refl; front = refl; first = refl })
          (append_front w b h clean d s long small fit);
      grown = h.grown;
      tidy = append_tidy w b h clean d s long small fit;
      hold = h.hold;
      places = h.places;
      opens = lone_opens w b h clean lpn d long small logical_low more;
      changing = changing_grow xs ys w.map (lone_map lpn w) w.hold w.state.places b b refl (append_keeps w b h clean d s long small fit)
          (λ i l z. laid_still xs w.map lpn k (next_blank w b h clean d s long small fit) (place_at w.state.places i).id) h.changing;
    }

    -- "Each stride picks anew, in a sequence the same block", with one copy less to make
    pub copy_going : GoingOn (carried (copy_stride j w) w).world c
    unfolding carried copy_stride with_work with_version with_last data_bytes
    copy_going = going_copy g w.state.zones w.state.last xs ys w.map w.state.version c on h.tidy some
        (program_other g.pages xs k (page_bytes d s) (append_ok w b h clean d s long small fit).fits)
        (whole_not_blank ys k (append_whole w b h clean d s long small fit))

    -- it appends the copy
    pub copy_appends : Appends w b h s (copy_stride j w)
    copy_appends =
        appends w b h clean d s long small fit (copy_stride j w) (unfold copy_stride data_bytes in refl) (unfold copy_stride with_work with_version with_last in refl)
        (unfold copy_stride with_work with_version with_last in refl)

  -- ---- the erase
  module _ (calm' : calm w.state.work ≡ true) (zero' : mapped_in w.map g.pages c ≡ 0) where
    -- no mapped page is in the block
    outside : (k : ℕ) → k ≢ unmapped → 0 < occ k w.map → Outside g.pages c k
    outside k n o = where_not k (none_in g.pages c w.map k o zero')
      where
        where_not : (k : ℕ) → in_block g.pages c k ≡ false → Outside g.pages c k
        where_not k e = go (decide (leb (c * g.pages) k)) (decide (ltb k (c * g.pages + g.pages)))
          where
            go : (leb (c * g.pages) k ≡ true) ⊎ (leb (c * g.pages) k ≡ false)
                → (ltb k (c * g.pages + g.pages) ≡ true) ⊎ (ltb k (c * g.pages + g.pages) ≡ false) → Outside g.pages c k
            go (inr a) t = inl (leb-false (c * g.pages) k a)
            go (inl a) (inr t) = inr (ltb-false k (c * g.pages + g.pages) t)
            go (inl a) (inl t) = clash (rw (a, t) refl) e

    front_same : (ys : List ℕ) → ((i : ℕ) → Outside g.pages c i → page_at ys i ≡ page_at xs i) → SameFront xs ys g.pages
    front_same ys o i l =
        let m : 2 * g.pages ≤ c * g.pages = mul-le-mul_right g.pages few.low in
        o i (inl (omega arith))

    -- the array after it
    abbrev erased : List ℕ
    erased = apply_op g.pages (erase c) xs

    spared : Spared g xs erased w.state.zones w.map
    spared = block_spares g xs erased w.state.zones w.map c unlisted (erase_other g.pages xs c inside) (erase_others g.pages xs c inside) outside

    free_live : Live (carried (free_stride c w) w).world b
    unfolding carried free_stride with_work with_zones
    free_live = record {
      saved = h.saved;
      sound =
          spared_sound g xs erased w.state.zones w.map spared h.saved w.state.version b.pages h.grown
          (length_apply g.pages (erase c) xs inside)
          (bytes_apply g.pages (erase c) xs h.sound.bytes) (leans_apply g.pages (erase c) xs inside h.sound.lean)
          (front_away g xs h.saved h.sound.front erased (front_same erased (erase_other g.pages xs c inside))) h.sound;
      kept = kept_away w _ h.saved h.kept calm' refl (record { geometry = refl; checkpoint = refl; front = refl; first = refl })
          (front_same erased (erase_other g.pages xs c inside));
      grown = grown_freed h.saved.zones w.state.zones c h.grown;
      tidy = tidy_freed g w.state.zones c unlisted is_data xs h.tidy inside;
      hold = h.hold;
      places = h.places;
      opens = rw (scan_freed g w.state.zones c unlisted is_data xs h.tidy inside) h.opens;
      changing = spared_changing g xs erased w.state.zones w.map spared w.hold w.state.places b h.opens h.changing;
    }

    pub free_scan : scanned (carried (free_stride c w) w).world ≡ scanned w
    unfolding carried free_stride with_work with_zones
    free_scan = scan_freed g w.state.zones c unlisted is_data xs h.tidy inside

    pub free_cut : (lets : List ℕ) → Stored g (cut_op g.pages (erase c) lets xs) b.pages
    free_cut lets =
        let zs = cut_op g.pages (erase c) lets xs in
        let sp = block_spares g xs zs w.state.zones w.map c unlisted (cut_erase_other g.pages xs c inside lets)
        (cut_erase_others g.pages xs c inside lets) outside in
        record {
          saved = h.saved;
          map = w.map;
          version = w.state.version;
          sound =
              spared_sound g xs zs w.state.zones w.map sp h.saved w.state.version b.pages h.grown (length_cut g.pages (erase c) lets xs)
              (bytes_cut g.pages (erase c) lets xs h.sound.bytes) (leans_cut g.pages (erase c) lets xs h.sound.bytes inside h.sound.lean)
              (front_away g xs h.saved h.sound.front zs (front_same zs (cut_erase_other g.pages xs c inside lets))) h.sound;
        }

-- ---- reclaim keeps the world live
pub reclaim_keeps : (w : World) (b : Book) → Live w b → Keeps reclaim w b
unfolding plan
reclaim_keeps w b h = view_keeps reclaim w b (Reclaims w) h (reclaim_view w h.sound.last) go
  where
    go : (p : Plan) → plan_reclaim w ≡ p → Reclaims w p → Keeps reclaim w b
    go p e (copies c calm' on some) = more_live reclaim w b p e (unfold copy_stride in refl) (copy_live w b h c on calm' some)
    go p e (frees c calm' on zero') = done_live reclaim w b p e (unfold free_stride in refl) (unfold entering changing in free_live w b h c on calm' zero')
