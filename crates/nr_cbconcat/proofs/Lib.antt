mod OwnerFacts
