mod CarriedFacts
