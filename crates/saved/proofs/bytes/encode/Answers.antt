-- `saved::bytes::encode` meets its contract.
use mathlib.Core.Path.{◌≡◌}
use native.Mathlib.Omega.{arith}
use lib.ListN.{length}
use Rattle.saved.specs.SetupBytes.{key_value, label_value}
use Rattle.saved.proofs.Setups.{stops_most, features_size, attributes_size}
use Rattle.saved.proofs.Puts.{setup_put}
use borrow.Author.Rules.{rules}
use Rattle.saved.proofs.bytes.encode.Goals as goal

pub put_stops-a-requires : goal.put_stops-a-requires
put_stops-a-requires c =
    omega (
      arith,
      stops_most c.args.u.tabs,
      c.requires.1,
    )

pub put_features-b-requires : goal.put_features-b-requires
put_features-b-requires c =
    let u = c.args.u in
    let e : length u.attributes ≡ 4 = search rules in
    omega (
      arith,
      stops_most u.tabs,
      features_size u.features,
      attributes_size 0x30 u.attributes,
      e,
      c.requires.1,
      c.put_stops-a.ensures.place,
      c.put_stops-a.auto.out,
    )

pub put_attributes-c-requires : goal.put_attributes-c-requires
put_attributes-c-requires c =
    let u = c.args.u in
    let e : length u.attributes ≡ 4 = search rules in
    omega (
      arith,
      stops_most u.tabs,
      features_size u.features,
      attributes_size 0x30 u.attributes,
      e,
      c.requires.1,
      c.put_stops-a.ensures.place,
      c.put_stops-a.auto.out,
      c.put_features-b.ensures.place,
      c.put_features-b.auto.out,
    )

pub put_texts-d-requires : goal.put_texts-d-requires
put_texts-d-requires c =
    let u = c.args.u in
    let e : length u.attributes ≡ 4 = search rules in
    let f : length u.keys ≡ 32 = search rules in
    ((0, c.requires.0.0), (omega (arith, f, stops_most u.tabs, features_size u.features, attributes_size 0x30 u.attributes, e, c.requires.1, c.put_stops-a.ensures.place, c.put_stops-a.auto.out, c.put_features-b.ensures.place, c.put_features-b.auto.out, c.put_attributes-c.ensures.place, c.put_attributes-c.auto.out), (omega (arith, f), omega (arith, f))))

pub put_texts-requires : goal.put_texts-requires
put_texts-requires c =
    let u = c.args.u in
    let e : length u.attributes ≡ 4 = search rules in
    let f : length u.keys ≡ 32 = search rules in
    let g : length u.labels ≡ 16 = search rules in
    ((0x20, c.requires.0.1), (omega (arith, f, g, stops_most u.tabs, features_size u.features, attributes_size 0x30 u.attributes, e, c.requires.1, c.put_stops-a.ensures.place, c.put_stops-a.auto.out, c.put_features-b.ensures.place, c.put_features-b.auto.out, c.put_attributes-c.ensures.place, c.put_attributes-c.auto.out, c.put_texts-d.ensures.1, c.put_texts-d.auto.out), (omega (arith, g), omega (arith, g))))

pub returns : goal.returns
unfolding key_value label_value
returns c =
    let u = c.args.u in
    let f : length u.keys ≡ 32 = search rules in
    let g : length u.labels ≡ 16 = search rules in
    let e : length u.attributes ≡ 4 = search rules in (
      setup_put u c.put_stops-a.ensures c.put_features-b.ensures c.put_attributes-c.ensures c.put_texts-d.ensures.0 c.put_texts.ensures.0,
      omega (
        arith,
        f,
        g,
        stops_most u.tabs,
        features_size u.features,
        attributes_size 0x30 u.attributes,
        e,
        c.requires.1,
        c.put_stops-a.ensures.place,
        c.put_features-b.ensures.place,
        c.put_attributes-c.ensures.place,
        c.put_texts-d.ensures.1,
        c.put_texts.ensures.1,
      ),
    )
