-- What bytes are where their header was taken off.
use Rattle.std.proofs.Common.{◌≡◌, ◌+◌, ◌++◌, length, drop, Some, ap, sym, ◌∙◌, arith, length-append}
use Rattle.std.proofs.lemmas.List.{drop_at}
use Rattle.bytes.specs.Filled.{Filled}
use Rattle.nm_wire.specs.declared.request_head.RequestHead.{RequestHead}
use Rattle.nm_wire.specs.Layout.{request_head_bytes}
use Rattle.nm_wire.proofs.Heads.{length-request_head_bytes}
use Rattle.nm_requests.specs.declared.received.Received.TheInside.{Inside}
use Rattle.nm_requests.specs.ReceivedFields.{filled_of, head_bytes}

module _ (received : Inside) (now : Filled) (head : RequestHead) (view : filled_of received ≡ now)
    (off : received.head ≡ Some head) where
  pub items_are : now.items ≡ request_head_bytes head ++ received.bytes.items
  items_are =
      ap (λ (filled : Filled). filled.items) (sym view)
      ∙ ap (λ taken. head_bytes taken ++ received.bytes.items) off

  pub after_head : drop 28 now.items ≡ received.bytes.items
  after_head =
      ap (drop 28) items_are ∙ drop_at (request_head_bytes head) received.bytes.items 28
      (length-request_head_bytes head)

  pub length_is : length now.items ≡ 28 + length received.bytes.items
  length_is =
      omega (
        arith,
        ap length items_are,
        length-append
            (request_head_bytes head) received.bytes.items,
        length-request_head_bytes head,
      )
