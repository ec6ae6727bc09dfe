use Rattle.std.proofs.Common.{get_or, ◌∙◌, arith, length-set}
use Rattle.memory.specs.Rings.{no_row}
use Rattle.memory.proofs.Rings.{row_short, place_in, rows_in_set, stores_in_set}
use Rattle.memory.proofs.Memories.{store_pushed}
use Rattle.memory.proofs.shared.SharedMemory.push.Goals as goal

pub place_of-at-requires : goal.place_of-at-requires
place_of-at-requires c =
    let self = c.args.self.now in
    (c.requires.whose, ((self.inside c.args.p).0, (row_short _ _ _ c.args.p c.requires.room, self.layout.slots)))

pub invariant_of-self : goal.invariant_of-self
invariant_of-self c =
    let self = c.args.self.now in
    let row = self.inside c.args.p in
    let less = row_short self.late.now self.layout.room self.rows c.args.p c.requires.room in
    let inside = place_in self.layout.room c.args.p (get_or self.rows c.args.p no_row).first (get_or self.rows c.args.p no_row).many c.requires.whose row.0 less in record {
      wide = self.wide;
      marked = self.marked;
      stacked = self.stacked;
      rowed = length-set _ _ _ ∙ self.rowed;
      sixteen = length-set _ _ _ ∙ self.sixteen;
      unheld = self.unheld;
      apart = self.apart;
      counted = self.counted;
      inside = rows_in_set _ _ _ _ self.inside (omega (arith, self.sixteen, c.requires.whose)) row.0 (omega arith);
      bound = stores_in_set _ _ _ _ self.bound (omega (arith, self.rowed, inside, c.place_of-at.ensures)) c.requires.target.0 c.requires.target.1 c.ranges.x.fits;
    }

pub returns : goal.returns
returns c =
    let self = c.args.self.now in
    store_pushed _ _ _ _ _ _ _ _ _ c.args.p _ _ self.rowed self.sixteen c.requires.whose (self.inside c.args.p).0 (row_short _ _ _ c.args.p c.requires.room) c.place_of-at.ensures
